-- Lists that are added one after the other.
use Rattle.std.proofs.Common.{◌≡◌, List, ◌++◌, sym, ap, ◌∙◌}
use Rattle.std.proofs.lemmas.List.{append_assoc}

pub two_lists : {A : Type 0} (a b c x y all : List A) → b ≡ a ++ x → c ≡ b ++ y → all ≡ x ++ y → c ≡ a ++ all
two_lists {A = A} a b c x y all first second whole = second ∙ ap (λ (l : List A). l ++ y) first ∙ append_assoc a x y ∙ ap (λ (l : List A). a ++ l) (sym whole)
