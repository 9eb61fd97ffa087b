-- Sites that are added one list after the other.
use Rattle.std.proofs.Common.{◌≡◌, ℕ, List, ◌++◌, refl, sym, ap, ◌∙◌}
use Rattle.std.proofs.lemmas.List.{append_assoc}

pub two_lists : (a b c x y all : List ℕ) → b ≡ a ++ x → c ≡ b ++ y → all ≡ x ++ y → c ≡ a ++ all
two_lists a b c x y all first second whole = second ∙ ap (λ (l : List ℕ). l ++ y) first ∙ append_assoc a x y ∙ ap (λ (l : List ℕ). a ++ l) (sym whole)

pub three_lists : (a b c d x y z all : List ℕ) → b ≡ a ++ x → c ≡ b ++ y → d ≡ c ++ z → all ≡ x ++ (y ++ z) → d ≡ a ++ all
three_lists a b c d x y z all first second third whole = two_lists a b d x (y ++ z) all first (two_lists b c d y z (y ++ z) second third refl) whole
