-- The code of expressions that is put together from pieces.
use Rattle.std.proofs.Common.{◌≡◌, ℕ, suc, ◌+◌, ◌<◌, List, [], ◌∷◌, ◌++◌, length, get_or, drop, refl, sym, ap, ◌∙◌, subst, arith, length-append, append_assoc}
use Rattle.std.proofs.Math.Seq.{drop-cons}
use Rattle.isa.specs.declared.instr.Instr.{Instr}
use Rattle.isa.specs.declared.instr.Instr.TheVariants.{Jump, JumpZero}
use Rattle.typed_syntax.specs.declared.operators.BinOp.{BinOp}
use Rattle.typed.specs.declared.expr.Expr.{Expr}
use Rattle.typed_syntax.specs.Syntax.{Ex, Program, logical_and, logical_or, more, wide}
use Rattle.typed.specs.View.{ex_of, exs_of}
use Rattle.expression_code.specs.Temps.{ExsFitIn}
use Rattle.program_code.specs.Code.{Slots, binary_code, compared, ex_code, exs_code, size, temp}
use Rattle.program_code.proofs.Sizes.{length_code, length_last}

split_values : (es : List Expr) (i : ℕ) (x : Expr) → i < length es → x ≡ get_or es i x → exs_of (drop i es) ≡ more (ex_of x) (exs_of (drop (i + 1) es))
split_values es i x l is =
    let one : suc i ≡ i + 1 = omega arith in
    ap exs_of (drop-cons es i x l) ∙ ap (λ y. more (ex_of y) (exs_of (drop (suc i) es))) (sym is) ∙ ap (λ j. more (ex_of x) (exs_of (drop j es))) one

-- one code after another, which goes by its own place
pub next_emitted : (old c1 c2 a : List Instr) (b : ℕ → List Instr) (n : ℕ) → c1 ≡ old ++ a → length a ≡ n → c2 ≡ c1 ++ b (length c1) → c2 ≡ old ++ (a ++ b (length old + n))
next_emitted old c1 c2 a b n e1 l e2 =
    let m : length c1 ≡ length old + n = ap length e1 ∙ length-append old a ∙ ap (λ k. length old + k) l in
    e2 ∙ ap (λ k. c1 ++ b k) m ∙ ap (λ c. c ++ b (length old + n)) e1 ∙ append_assoc old a (b (length old + n))

module _ (p : Program) (s : Slots) where
  pub binary_emitted : (old c1 c2 c3 : List Instr) (o : BinOp) (a b : Ex) (h n m : ℕ) → n ≡ wide p a → m ≡ compared p a b → c1 ≡ old ++ ex_code p s a h (length old) → c2 ≡ c1 ++ ex_code p s b (h + n) (length c1)
      → c3 ≡ c2 ++ binary_code o m (temp s h) (temp s (h + n)) ∷ []
      → c3 ≡ old ++ (ex_code p s a h (length old) ++ (ex_code p s b (h + wide p a) (length old + size p a) ++ binary_code o (compared p a b) (temp s h) (temp s (h + wide p a)) ∷ []))
  binary_emitted old c1 c2 c3 o a b h n m e0 ec e1 e2 e3 =
      let pb = length old + size p a in let w = wide p a in let k = compared p a b in
      let n1 : length c1 ≡ pb = ap length e1 ∙ omega (arith, length-append old (ex_code p s a h (length old)), length_code p s a h (length old)) in
      let f2 : c2 ≡ c1 ++ ex_code p s b (h + w) pb = e2 ∙ ap (λ place. c1 ++ ex_code p s b (h + n) place) n1 ∙ ap (λ i. c1 ++ ex_code p s b (h + i) pb) e0 in
      let f3 : c3 ≡ c2 ++ binary_code o k (temp s h) (temp s (h + w)) ∷ [] =
      e3 ∙ ap (λ i. c2 ++ binary_code o m (temp s h) (temp s (h + i)) ∷ []) e0 ∙ ap (λ i. c2 ++ binary_code o i (temp s h) (temp s (h + w)) ∷ []) ec in
      let all : c3 ≡ ((old ++ ex_code p s a h (length old)) ++ ex_code p s b (h + w) pb) ++ binary_code o k (temp s h) (temp s (h + w)) ∷ [] = cc in
      all ∙ simp append_assoc

  pub both_emitted : (old c1 c2 c3 : List Instr) (a b : Ex) (h : ℕ) → c1 ≡ old ++ ex_code p s a h (length old) → c2 ≡ c1 ++ JumpZero (temp s h) (length c1 + 1 + size p b) ∷ []
      → c3 ≡ c2 ++ ex_code p s b h (length c2) → c3 ≡ old ++ ex_code p s (logical_and a b) h (length old)
  both_emitted old c1 c2 c3 a b h e1 e2 e3 =
      let pb = length old + size p a + 1 in
      let n1 : length c1 + 1 ≡ pb = (let n : length c1 ≡ length (old ++ ex_code p s a h (length old)) = ap length e1 in omega (arith, n, length-append old (ex_code p s a h (length old)), length_code p s a h (length old))) in
      let n2 : length c2 ≡ pb = ap length e2 ∙ length_last c1 (JumpZero (temp s h) (length c1 + 1 + size p b)) ∙ n1 in
      let f2 : c2 ≡ c1 ++ JumpZero (temp s h) (pb + size p b) ∷ [] = e2 ∙ ap (λ place. c1 ++ JumpZero (temp s h) (place + size p b) ∷ []) n1 in
      let f3 : c3 ≡ c2 ++ ex_code p s b h pb = e3 ∙ ap (λ place. c2 ++ ex_code p s b h place) n2 in
      let all : c3 ≡ ((old ++ ex_code p s a h (length old)) ++ JumpZero (temp s h) (pb + size p b) ∷ []) ++ ex_code p s b h pb = cc in
      all ∙ simp append_assoc

  pub either_emitted : (old c1 c2 c3 : List Instr) (a b : Ex) (h : ℕ) → c1 ≡ old ++ ex_code p s a h (length old)
      → c2 ≡ c1 ++ JumpZero (temp s h) (length c1 + 2) ∷ Jump (length c1 + 2 + size p b) ∷ [] → c3 ≡ c2 ++ ex_code p s b h (length c2) → c3 ≡ old ++ ex_code p s (logical_or a b) h (length old)
  either_emitted old c1 c2 c3 a b h e1 e2 e3 =
      let pb = length old + size p a + 2 in
      let n1 : length c1 + 2 ≡ pb = (let n : length c1 ≡ length (old ++ ex_code p s a h (length old)) = ap length e1 in omega (arith, n, length-append old (ex_code p s a h (length old)), length_code p s a h (length old))) in
      let two : length (JumpZero (temp s h) (length c1 + 2) ∷ Jump (length c1 + 2 + size p b) ∷ []) ≡ 2 = refl in
      let n2 : length c2 ≡ pb = ap length e2 ∙ omega (arith, n1, two, length-append c1 (JumpZero (temp s h) (length c1 + 2) ∷ Jump (length c1 + 2 + size p b) ∷ [])) in
      let f2 : c2 ≡ c1 ++ JumpZero (temp s h) pb ∷ Jump (pb + size p b) ∷ [] = e2 ∙ ap (λ place. c1 ++ JumpZero (temp s h) place ∷ Jump (place + size p b) ∷ []) n1 in
      let f3 : c3 ≡ c2 ++ ex_code p s b h pb = e3 ∙ ap (λ place. c2 ++ ex_code p s b h place) n2 in
      let all : c3 ≡ ((old ++ ex_code p s a h (length old)) ++ JumpZero (temp s h) pb ∷ Jump (pb + size p b) ∷ []) ++ ex_code p s b h pb = cc in
      all ∙ simp append_assoc

  -- a value of a row, and the others
  pub value_emitted : (whole code behind : List Instr) (es : List Expr) (i : ℕ) (x : Expr) (h after : ℕ) → i < length es → x ≡ get_or es i x → after ≡ h + wide p (ex_of x) → whole ≡ code ++ exs_code p s (exs_of (drop i es)) h (length code)
      → behind ≡ code ++ ex_code p s (ex_of x) h (length code) → whole ≡ behind ++ exs_code p s (exs_of (drop (i + 1) es)) after (length behind)
  value_emitted whole code behind es i x h after l is e0 e1 e2 =
      let cx = ex_code p s (ex_of x) h (length code) in let rest = exs_of (drop (i + 1) es) in
      let n : length code + size p (ex_of x) ≡ length behind = omega (arith, length-append code cx, length_code p s (ex_of x) h (length code), ap length e2) in
      e1 ∙ ap (λ y. code ++ exs_code p s y h (length code)) (split_values es i x l is) ∙ sym (append_assoc code cx (exs_code p s rest (h + wide p (ex_of x)) (length code + size p (ex_of x))))
      ∙ ap (λ place. (code ++ cx) ++ exs_code p s rest (h + wide p (ex_of x)) place) n ∙ ap (λ l. l ++ exs_code p s rest (h + wide p (ex_of x)) (length behind)) (sym e2)
      ∙ ap (λ k. behind ++ exs_code p s rest k (length behind)) (sym e0)

  pub values_split : (n : ℕ) (es : List Expr) (i : ℕ) (x : Expr) (h : ℕ) → i < length es → x ≡ get_or es i x → ExsFitIn p s n h (exs_of (drop i es)) → ExsFitIn p s n h (more (ex_of x) (exs_of (drop (i + 1) es)))
  values_split n es i x h l is f = subst (λ y. ExsFitIn p s n h y) (split_values es i x l is) f
