-- What a sink took call by call.
use Rattle.std.proofs.Common.{ℕ, List, [], ◌++◌, append_assoc, append-nil, ap, ◌∙◌, sym}
use Rattle.std.specs.Prelude.{Option, None, Some}
use Rattle.outside.specs.Took.{Took}

-- what did not change took nothing
pub Took-nothing : (a : Option (List ℕ)) → Took a a []
Took-nothing None = tt
Took-nothing (Some xs) = sym (append-nil xs)

-- what two calls took is what both took together
pub Took-trans : (a b c : Option (List ℕ)) (x y : List ℕ) → Took a b x → Took b c y → Took a c (x ++ y)
Took-trans a b None x y p q = tt
Took-trans a None (Some zs) x y p q = absurd q
Took-trans None (Some ys) (Some zs) x y p q = absurd p
Took-trans (Some xs) (Some ys) (Some zs) x y p q = q ∙ ap (λ (v : List ℕ). v ++ y) p ∙ append_assoc xs x y
