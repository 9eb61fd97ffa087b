-- A value for each of some places.
use Rattle.std.proofs.Common.{◌≡◌, ℕ, ◌+◌, ◌<◌, List, [], ◌∷◌, ◌++◌, length, take, get_or, ◌⊎◌, inl, inr, refl, sym, ap, ◌∙◌, subst}
use Rattle.std.specs.Prelude.{slice_get, slice_set}
use Rattle.std.proofs.lemmas.Bool.{cases_eq}
use Rattle.std.proofs.lemmas.List.{take_more}
use Rattle.components.specs.Graph.{Among}
use Rattle.components.specs.Search.{At, set_all}
use Rattle.components.proofs.Lists.{at_one, at_within, at_there, set_same, set_other, set_length}

module _ {A : Type 0} (y : A) where
  pub all_length : (xs : List A) (ks : List ℕ) → length (set_all y xs ks) ≡ length xs
  all_length xs [] = refl
  all_length xs (k ∷ ks) = all_length (slice_set xs k y) ks ∙ set_length xs k y

  still_set : (xs : List A) (j k : ℕ) → At xs k y → At (slice_set xs j y) k y
  still_set xs j k at = elim (cases_eq k j) [
    | inl e ↦ subst (λ (i : ℕ). At (slice_set xs j y) i y) (sym e) (set_same xs j y y (subst (λ (i : ℕ). At xs i y) e at))
    | inr other ↦ set_other xs j k y other ∙ at
  ]

  pub stays_set : (xs : List A) (ks : List ℕ) (k : ℕ) → At xs k y → At (set_all y xs ks) k y
  stays_set xs [] k at = at
  stays_set xs (j ∷ ks) k at = stays_set (slice_set xs j y) ks k (still_set xs j k at)

  now_set : (xs : List A) (j k : ℕ) → k ≡ j → k < length xs → At (slice_set xs j y) k y
  now_set xs j k e small = let was = at_there xs k small in subst (λ (i : ℕ). At (slice_set xs i y) k y) e (set_same xs k was.0 y was.1)

  pub all_set : (xs : List A) (ks : List ℕ) (k : ℕ) → Among k ks → k < length xs → At (set_all y xs ks) k y
  all_set xs [] k among small = absurd among
  all_set xs (j ∷ ks) k (inl e) small = stays_set (slice_set xs j y) ks k (now_set xs j k e small)
  all_set xs (j ∷ ks) k (inr among) small = all_set (slice_set xs j y) ks k among (subst (λ (n : ℕ). k < n) (sym (set_length xs j y)) small)

  pub all_cases : (xs : List A) (ks : List ℕ) (k : ℕ) (x : A) → At (set_all y xs ks) k x → (Among k ks × (x ≡ y)) ⊎ At xs k x
  all_cases xs [] k x at = inr at
  all_cases xs (j ∷ ks) k x at = elim (all_cases (slice_set xs j y) ks k x at) [
    | inl new ↦ inl (inr new.0, new.1)
    | inr old ↦ (elim (cases_eq k j) [
      | inl e ↦ inl (inl e, at_one (slice_set xs j y) k x y old (now_set xs j k e (subst (λ (n : ℕ). k < n) (set_length xs j y) (at_within (slice_set xs j y) k x old))))
      | inr other ↦ inr (sym (set_other xs j k y other) ∙ old)
    ])
  ]

  pub others_stay : (xs : List A) (ks : List ℕ) (k : ℕ) → (Among k ks → ⊥) → slice_get (set_all y xs ks) k ≡ slice_get xs k
  others_stay xs [] k not_among = refl
  others_stay xs (j ∷ ks) k not_among = others_stay (slice_set xs j y) ks k (λ h. not_among (inr h)) ∙ set_other xs j k y (λ e. not_among (inl e))

  all_push : (xs : List A) (ks : List ℕ) (k : ℕ) → set_all y xs (ks ++ k ∷ []) ≡ slice_set (set_all y xs ks) k y
  all_push xs [] k = refl
  all_push xs (j ∷ ks) k = all_push (slice_set xs j y) ks k

  -- one place more
  pub all_more : (xs now : List A) (ks : List ℕ) (i : ℕ) → i < length ks → now ≡ set_all y xs (take i ks) → slice_set now (get_or ks i 0) y ≡ set_all y xs (take (i + 1) ks)
  all_more xs now ks i within is =
      ap (λ (l : List A). slice_set l (get_or ks i 0) y) is ∙ sym (all_push xs (take i ks) (get_or ks i 0)) ∙ ap (set_all y xs) (sym (take_more ks i 0 within))
