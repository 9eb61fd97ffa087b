-- One function more after a text.
use Rattle.std.proofs.Common.{◌≡◌, ℕ, suc, ◌+◌, List, ◌++◌, ap, ◌∙◌, sym, subst, arith}
use mathlib.Core.List.{append_assoc}
use Rattle.demo_gen.specs.Text.{function_text, functions}

pub one_more : (k : ℕ) (beginning old new : List ℕ) → new ≡ old ++ function_text (k + 1) → old ≡ beginning ++ functions k → new ≡ beginning ++ functions (k + 1)
one_more k beginning old new a b =
    let e : k + 1 ≡ suc k = omega arith in
    let next : new ≡ old ++ function_text (suc k) = subst (λ (j : ℕ). new ≡ old ++ function_text j) e a in
    subst (λ (j : ℕ). new ≡ beginning ++ functions j) (sym e) (next ∙ ap (λ (xs : List ℕ). xs ++ function_text (suc k)) b ∙ simp append_assoc)
