-- What lists contain.
use Rattle.std.proofs.Common.{◌≡◌, ◌⊎◌, inl, inr, ℕ, zero, suc, refl, ap, List, [], ◌∷◌, arith, ◌<◌}
use Rattle.std.specs.List.{Contains}
use Rattle.std.proofs.lemmas.List.Elements.{Contains-push_cases, Contains-push, Contains-append_left, Contains-append_right, Contains-append_cases}

pub contains_nil : {X : Type 0} (x : X) → Contains [] x → ⊥
contains_nil x h = let within : h.0 < 0 = h.1 in absurd (omega arith)

pub one_is : {X : Type 0} (y x : X) → Contains (y ∷ []) x → y ≡ x
one_is y x h = elim (Contains-push_cases [] y x h) [ inl none ↦ absurd (contains_nil x none) | inr is ↦ is ]

pub one_has : {X : Type 0} (x : X) → Contains (x ∷ []) x
one_has x = Contains-push [] x

pub head_or_tail : {X : Type 0} (y : X) (ys : List X) (x : X) → Contains (y ∷ ys) x → (y ≡ x) ⊎ Contains ys x
head_or_tail y ys x h = elim (Contains-append_cases (y ∷ []) ys x h) [ inl one ↦ inl (one_is y x one) | inr rest ↦ inr rest ]

pub head_in : {X : Type 0} (y : X) (ys : List X) → Contains (y ∷ ys) y
head_in y ys = Contains-append_left (y ∷ []) ys y (one_has y)

pub tail_in : {X : Type 0} (y : X) (ys : List X) (x : X) → Contains ys x → Contains (y ∷ ys) x
tail_in y ys x h = Contains-append_right (y ∷ []) ys x h

pub cases_same : (f g : ℕ) → (f ≡ g) ⊎ (f ≡ g → ⊥)
cases_same zero zero = inl refl
cases_same zero (suc g) = inr (λ e. absurd (cc))
cases_same (suc f) zero = inr (λ e. absurd (cc))
cases_same (suc f) (suc g) = elim (cases_same f g) [ inl same ↦ inl (ap suc same) | inr apart ↦ inr (λ e. apart (cc)) ]
