-- The new sites of an init statement, one after the other.
use Rattle.std.proofs.Common.{◌≡◌, ℕ, List, [], ◌∷◌, ◌++◌, sym, ap, append-nil, append_assoc}
use Rattle.typed_syntax.specs.Syntax.{Left, blank, new, to}
use Rattle.types_go.specs.Statements.{new_in}

pub new_more : (so_far : List ℕ) (l : Left) (ls : List Left) → so_far ++ new_in (l ∷ ls) ≡ (so_far ++ new_in (l ∷ [])) ++ new_in ls
new_more so_far blank ls = ap (λ k. k ++ new_in ls) (sym (append-nil so_far))
new_more so_far (to q) ls = ap (λ k. k ++ new_in ls) (sym (append-nil so_far))
new_more so_far (new site) ls = sym (append_assoc so_far (site ∷ []) (new_in ls))
