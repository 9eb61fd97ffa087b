-- Values for some places, and numbers of which one passes a test.
use Rattle.std.proofs.Common.{◌≡◌, ℕ, ◌+◌, ◌<◌, List, [], ◌∷◌, ◌++◌, length, take, get_or, true, false, inl, inr, refl, sym, ap, ◌∙◌, subst}
use Rattle.std.specs.Prelude.{Bool, slice_get, slice_set, Some}
use Rattle.std.specs.List.{list_any}
use Rattle.std.proofs.lemmas.Bool.{cases_eq, or_cases, or_left, or_right}
use Rattle.std.proofs.lemmas.List.{take_more}
use Rattle.struct_sizes.specs.Filling.{set_each}
use Rattle.components.specs.Graph.{Among}
use Rattle.components.proofs.Lists.{at_there, set_same, set_other, set_length}

module _ {A : Type 0} (g : ℕ → A) where
  pub each_length : (xs : List A) (ks : List ℕ) → length (set_each g xs ks) ≡ length xs
  each_length xs [] = refl
  each_length xs (k ∷ ks) = each_length (slice_set xs k (g k)) ks ∙ set_length xs k (g k)

  now_set : (xs : List A) (k : ℕ) → k < length xs → slice_get (slice_set xs k (g k)) k ≡ Some (g k)
  now_set xs k small = let was = at_there xs k small in set_same xs k was.0 (g k) was.1

  stays : (xs : List A) (ks : List ℕ) (k : ℕ) → k < length xs → slice_get xs k ≡ Some (g k) → slice_get (set_each g xs ks) k ≡ Some (g k)
  stays xs [] k small at = at
  stays xs (j ∷ ks) k small at = stays (slice_set xs j (g j)) ks k (subst (λ (n : ℕ). k < n) (sym (set_length xs j (g j))) small) (elim (cases_eq k j) [
    | inl e ↦ subst (λ (i : ℕ). slice_get (slice_set xs i (g i)) k ≡ Some (g k)) e (now_set xs k small)
    | inr other ↦ set_other xs j k (g j) other ∙ at
  ])

  pub each_at : (xs : List A) (ks : List ℕ) (k : ℕ) → Among k ks → k < length xs → slice_get (set_each g xs ks) k ≡ Some (g k)
  each_at xs [] k h small = absurd h
  each_at xs (j ∷ ks) k (inl e) small = stays (slice_set xs j (g j)) ks k (subst (λ (n : ℕ). k < n) (sym (set_length xs j (g j))) small) (subst (λ (i : ℕ). slice_get (slice_set xs i (g i)) k ≡ Some (g k)) e (now_set xs k small))
  each_at xs (j ∷ ks) k (inr h) small = each_at (slice_set xs j (g j)) ks k h (subst (λ (n : ℕ). k < n) (sym (set_length xs j (g j))) small)

  pub each_other : (xs : List A) (ks : List ℕ) (k : ℕ) → (Among k ks → ⊥) → slice_get (set_each g xs ks) k ≡ slice_get xs k
  each_other xs [] k none = refl
  each_other xs (j ∷ ks) k none = each_other (slice_set xs j (g j)) ks k (λ h. none (inr h)) ∙ set_other xs j k (g j) (λ e. none (inl e))

  each_push : (xs : List A) (ks : List ℕ) (k : ℕ) → set_each g xs (ks ++ k ∷ []) ≡ slice_set (set_each g xs ks) k (g k)
  each_push xs [] k = refl
  each_push xs (j ∷ ks) k = each_push (slice_set xs j (g j)) ks k

  -- one place more
  pub each_more : (xs now : List A) (ks : List ℕ) (i : ℕ) → i < length ks → now ≡ set_each g xs (take i ks) → slice_set now (get_or ks i 0) (g (get_or ks i 0)) ≡ set_each g xs (take (i + 1) ks)
  each_more xs now ks i within is =
      ap (λ (l : List A). slice_set l (get_or ks i 0) (g (get_or ks i 0))) is ∙ sym (each_push xs (take i ks) (get_or ks i 0)) ∙ ap (set_each g xs) (sym (take_more ks i 0 within))

module _ (p : ℕ → Bool) where
  pub one_of : (ks : List ℕ) → list_any p ks ≡ true → (k : ℕ) × Among k ks × (p k ≡ true)
  one_of [] h = absurd (let bad : false ≡ true = h in cc)
  one_of (k ∷ ks) h = elim (or_cases (p k) (list_any p ks) h) [
    | inl here ↦ (k, inl refl, here)
    | inr later ↦ (let there = one_of ks later in (there.0, inr there.1, there.2))
  ]

  pub of_one : (ks : List ℕ) (k : ℕ) → Among k ks → p k ≡ true → list_any p ks ≡ true
  of_one [] k h e = absurd h
  of_one (j ∷ ks) k (inl same) e = or_left (p j) (list_any p ks) (subst (λ (i : ℕ). p i ≡ true) same e)
  of_one (j ∷ ks) k (inr h) e = or_right (p j) (list_any p ks) (of_one ks k h e)
