-- Marks at numbers, and how many have none.
use Rattle.std.proofs.Common.{◌≡◌, ℕ, zero, suc, Bool, true, false, List, [], ◌∷◌, length, ◌⊎◌, inl, inr, Some, None, refl, ap}
use Rattle.std.specs.Prelude.{slice_get, slice_set}
use Rattle.package_values.specs.Passing.{is_marked}

pub set_only : (marks : List Bool) (k j : ℕ) → is_marked (slice_set marks k true) j ≡ true → (j ≡ k) ⊎ (is_marked marks j ≡ true)
set_only [] k j h = inr h
set_only (m ∷ ms) zero zero h = inl refl
set_only (m ∷ ms) zero (suc j) h = inr h
set_only (m ∷ ms) (suc k) zero h = inr h
set_only (m ∷ ms) (suc k) (suc j) h = elim (set_only ms k j h) [ inl e ↦ inl (ap suc e) | inr i ↦ inr i ]

pub set_length : (marks : List Bool) (k : ℕ) → length (slice_set marks k true) ≡ length marks
set_length [] k = refl
set_length (m ∷ ms) zero = refl
set_length (m ∷ ms) (suc k) = ap suc (set_length ms k)

-- how many have none
abbrev pub unmarked : List Bool → ℕ
unmarked [] = 0
unmarked (true ∷ ms) = unmarked ms
unmarked (false ∷ ms) = suc (unmarked ms)

pub set_count : (marks : List Bool) (k : ℕ) → slice_get marks k ≡ Some false → suc (unmarked (slice_set marks k true)) ≡ unmarked marks
set_count [] k is = let bad : None ≡ Some false = is in absurd cc
set_count (true ∷ ms) zero is = let bad : Some true ≡ Some false = is in absurd cc
set_count (false ∷ ms) zero is = refl
set_count (true ∷ ms) (suc k) is = set_count ms k is
set_count (false ∷ ms) (suc k) is = ap suc (set_count ms k is)
