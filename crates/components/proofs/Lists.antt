-- Lists by the places of their elements, and numbers among others.
use Rattle.std.proofs.Common.{◌≡◌, ℕ, zero, suc, ◌+◌, ◌-◌, ◌<◌, ◌≤◌, List, [], ◌∷◌, ◌++◌, length, take, drop, ◌⊎◌, inl, inr, Some, None, refl, sym, ap, ◌∙◌, subst, arith}
use Rattle.std.specs.Prelude.{slice_get, slice_set}
use Rattle.std.proofs.lemmas.Option.{same_Some}
use Rattle.components.specs.declared.path.Edge.{Edge}
use Rattle.components.specs.Graph.{Among}
use Rattle.components.specs.Search.{At, edge, leaving, Rises}

-- ---- numbers among others

pub among_left : (k : ℕ) (xs ys : List ℕ) → Among k xs → Among k (xs ++ ys)
among_left k [] ys h = absurd h
among_left k (x ∷ xs) ys (inl e) = inl e
among_left k (x ∷ xs) ys (inr h) = inr (among_left k xs ys h)

pub among_right : (k : ℕ) (xs ys : List ℕ) → Among k ys → Among k (xs ++ ys)
among_right k [] ys h = h
among_right k (x ∷ xs) ys h = inr (among_right k xs ys h)

pub among_split : (k : ℕ) (xs ys : List ℕ) → Among k (xs ++ ys) → Among k xs ⊎ Among k ys
among_split k [] ys h = inr h
among_split k (x ∷ xs) ys (inl e) = inl (inl e)
among_split k (x ∷ xs) ys (inr h) = elim (among_split k xs ys h) [ inl l ↦ inl (inr l) | inr r ↦ inr r ]

pub among_push : (k : ℕ) (xs : List ℕ) → Among k (xs ++ k ∷ [])
among_push k xs = among_right k xs (k ∷ []) (inl refl)

pub among_push_cases : (k : ℕ) (xs : List ℕ) (y : ℕ) → Among k (xs ++ y ∷ []) → Among k xs ⊎ (k ≡ y)
among_push_cases k xs y h = elim (among_split k xs (y ∷ []) h) [ inl l ↦ inl l | inr r ↦ elim r [ inl e ↦ inr e | inr n ↦ absurd n ] ]

pub among_at : (k : ℕ) (xs : List ℕ) → Among k xs → (i : ℕ) × At xs i k
among_at k [] h = absurd h
among_at k (x ∷ xs) (inl e) = (zero, ap Some (sym e))
among_at k (x ∷ xs) (inr h) = let there = among_at k xs h in (suc there.0, there.1)

pub at_among : (k : ℕ) (xs : List ℕ) (i : ℕ) → At xs i k → Among k xs
at_among k [] i h = let bad : None ≡ Some k = h in absurd cc
at_among k (x ∷ xs) zero h = inl (sym (same_Some x k h))
at_among k (x ∷ xs) (suc i) h = inr (at_among k xs i h)

-- ---- places

suc_sum : (n i : ℕ) → suc (n + i) ≡ suc n + i
suc_sum n i = omega arith

module _ {A : Type 0} where
  pub at_one : (xs : List A) (i : ℕ) (x y : A) → At xs i x → At xs i y → x ≡ y
  at_one xs i x y a b = same_Some x y (sym a ∙ b)

  pub at_within : (xs : List A) (i : ℕ) (x : A) → At xs i x → i < length xs
  at_within [] i x h = let bad : None ≡ Some x = h in absurd cc
  at_within (y ∷ xs) zero x h = omega arith
  at_within (y ∷ xs) (suc i) x h = let l = at_within xs i x h in omega (arith, l)

  pub at_there : (xs : List A) (i : ℕ) → i < length xs → (x : A) × At xs i x
  at_there [] i l = absurd (omega (arith, l))
  at_there (y ∷ xs) zero l = (y, refl)
  at_there (y ∷ xs) (suc i) l = at_there xs i (omega (arith, l))

  pub at_left : (xs ys : List A) (i : ℕ) (x : A) → At xs i x → At (xs ++ ys) i x
  at_left [] ys i x h = let bad : None ≡ Some x = h in absurd cc
  at_left (y ∷ xs) ys zero x h = h
  at_left (y ∷ xs) ys (suc i) x h = at_left xs ys i x h

  pub at_right : (xs ys : List A) (i : ℕ) (x : A) → At ys i x → At (xs ++ ys) (length xs + i) x
  at_right [] ys i x h = subst (λ (j : ℕ). At ys j x) (omega arith) h
  at_right (y ∷ xs) ys i x h = subst (λ (j : ℕ). At (y ∷ (xs ++ ys)) j x) (suc_sum (length xs) i) (at_right xs ys i x h)

  pub at_cases : (xs ys : List A) (i : ℕ) (x : A) → At (xs ++ ys) i x → At xs i x ⊎ ((j : ℕ) × (i ≡ length xs + j) × At ys j x)
  at_cases [] ys i x h = inr (i, omega arith, h)
  at_cases (y ∷ xs) ys zero x h = inl h
  at_cases (y ∷ xs) ys (suc i) x h = elim (at_cases xs ys i x h) [ inl l ↦ inl l | inr r ↦ inr (r.0, ap suc r.1 ∙ suc_sum (length xs) r.0, r.2) ]

  pub at_push : (xs : List A) (y : A) → At (xs ++ y ∷ []) (length xs) y
  at_push [] y = refl
  at_push (x ∷ xs) y = at_push xs y

  pub at_push_cases : (xs : List A) (y : A) (i : ℕ) (x : A) → At (xs ++ y ∷ []) i x → At xs i x ⊎ ((i ≡ length xs) × (y ≡ x))
  at_push_cases [] y zero x h = inr (refl, same_Some y x h)
  at_push_cases [] y (suc i) x h = let bad : None ≡ Some x = h in absurd cc
  at_push_cases (z ∷ xs) y zero x h = inl h
  at_push_cases (z ∷ xs) y (suc i) x h = elim (at_push_cases xs y i x h) [ inl l ↦ inl l | inr r ↦ inr (ap suc r.0, r.1) ]

  pub at_take : (n : ℕ) (xs : List A) (i : ℕ) (x : A) → At (take n xs) i x → At xs i x × (i < n)
  at_take zero xs i x h = let bad : None ≡ Some x = h in absurd cc
  at_take (suc n) [] i x h = let bad : None ≡ Some x = h in absurd cc
  at_take (suc n) (y ∷ xs) zero x h = (h, omega arith)
  at_take (suc n) (y ∷ xs) (suc i) x h = let there = at_take n xs i x h in let l : i < n = there.1 in (there.0, omega (arith, l))

  pub take_at : (n : ℕ) (xs : List A) (i : ℕ) (x : A) → At xs i x → i < n → At (take n xs) i x
  take_at zero xs i x h l = absurd (omega (arith, l))
  take_at (suc n) [] i x h l = h
  take_at (suc n) (y ∷ xs) zero x h l = h
  take_at (suc n) (y ∷ xs) (suc i) x h l = take_at n xs i x h (omega (arith, l))

  pub at_drop : (n : ℕ) (xs : List A) (i : ℕ) → slice_get (drop n xs) i ≡ slice_get xs (n + i)
  at_drop zero xs i = ap (slice_get xs) (omega arith)
  at_drop (suc n) [] i = refl
  at_drop (suc n) (y ∷ xs) i = at_drop n xs i ∙ ap (slice_get (y ∷ xs)) (suc_sum n i)

  pub drop_at : (n : ℕ) (xs : List A) (p : ℕ) (x : A) → At xs p x → n ≤ p → (i : ℕ) × At (drop n xs) i x
  drop_at zero xs p x h l = (p, h)
  drop_at (suc n) [] p x h l = let bad : None ≡ Some x = h in absurd cc
  drop_at (suc n) (y ∷ xs) zero x h l = absurd (omega (arith, l))
  drop_at (suc n) (y ∷ xs) (suc p) x h l = drop_at n xs p x h (omega (arith, l))

  pub set_same : (xs : List A) (k : ℕ) (x y : A) → At xs k x → At (slice_set xs k y) k y
  set_same [] k x y h = let bad : None ≡ Some x = h in absurd cc
  set_same (z ∷ xs) zero x y h = refl
  set_same (z ∷ xs) (suc k) x y h = set_same xs k x y h

  pub set_other : (xs : List A) (k j : ℕ) (y : A) → (j ≡ k → ⊥) → slice_get (slice_set xs k y) j ≡ slice_get xs j
  set_other [] k j y other = refl
  set_other (z ∷ xs) zero zero y other = absurd (other refl)
  set_other (z ∷ xs) zero (suc j) y other = refl
  set_other (z ∷ xs) (suc k) zero y other = refl
  set_other (z ∷ xs) (suc k) (suc j) y other = set_other xs k j y (λ e. other (ap suc e))

  pub set_length : (xs : List A) (k : ℕ) (y : A) → length (slice_set xs k y) ≡ length xs
  set_length [] k y = refl
  set_length (z ∷ xs) zero y = refl
  set_length (z ∷ xs) (suc k) y = ap suc (set_length xs k y)

  pub before_last : (xs : List A) (x : A) → At xs (length xs - 1) x → xs ≡ take (length xs - 1) xs ++ x ∷ []
  before_last xs x at = by xs (length xs - 1) at (omega arith)
    where
      by : (l : List A) (n : ℕ) → At l n x → length l ≤ suc n → l ≡ take n l ++ x ∷ []
      by [] n h le = let bad : None ≡ Some x = h in absurd cc
      by (z ∷ []) zero h le = ap (λ (v : A). v ∷ []) (same_Some z x h)
      by (z ∷ z' ∷ l) zero h le = absurd (omega (arith, le))
      by (z ∷ l) (suc n) h le = ap (λ (m : List A). z ∷ m) (by l n h (omega (arith, le)))

  pub push_length : (xs : List A) (y : A) → length (xs ++ y ∷ []) ≡ suc (length xs)
  push_length [] y = refl
  push_length (x ∷ xs) y = ap suc (push_length xs y)

pub among_drop : (k n : ℕ) (xs : List ℕ) → Among k (drop n xs) → Among k xs
among_drop k n xs h = let at = among_at k (drop n xs) h in at_among k xs (n + at.0) (sym (at_drop n xs at.0) ∙ at.1)

-- ---- the edges of a node

pub leaving_at : (p : ℕ) (ks : List ℕ) (k : ℕ) → Among k ks → (i : ℕ) × At (leaving p ks) i (edge p k)
leaving_at p [] k h = absurd h
leaving_at p (x ∷ ks) k (inl e) = (zero, ap (λ (j : ℕ). Some (edge p j)) (sym e))
leaving_at p (x ∷ ks) k (inr h) = let there = leaving_at p ks k h in (suc there.0, there.1)

pub at_leaving : (p : ℕ) (ks : List ℕ) (i : ℕ) (e : Edge) → At (leaving p ks) i e → (e.from ≡ p) × Among e.to ks
at_leaving p [] i e h = let bad : None ≡ Some e = h in absurd cc
at_leaving p (x ∷ ks) zero e h = let is : edge p x ≡ e = same_Some (edge p x) e h in (ap (λ (d : Edge). d.from) (sym is), inl (ap (λ (d : Edge). d.to) (sym is)))
at_leaving p (x ∷ ks) (suc i) e h = let there = at_leaving p ks i e h in (there.0, inr there.1)

-- ---- numbers that rise

pub rises_push : (fs : List ℕ) (n : ℕ) → Rises fs → ((f : ℕ) → Among f fs → f < n) → Rises (fs ++ n ∷ [])
rises_push fs n rise below i j f g less a b = elim (at_push_cases fs n j g b) [
  | inl old ↦ (elim (at_push_cases fs n i f a) [
    | inl first ↦ rise i j f g less first old
    | inr last ↦ (let l = at_within fs j g old in absurd (omega (arith, less, l, last.0)))
  ])
  | inr new ↦ (elim (at_push_cases fs n i f a) [
    | inl first ↦ (let l = below f (at_among f fs i first) in omega (arith, l, new.1))
    | inr last ↦ absurd (omega (arith, less, last.0, new.0))
  ])
]

pub rises_front : (fs : List ℕ) (n : ℕ) → Rises (fs ++ n ∷ []) → Rises fs
rises_front fs n rise i j f g less a b = rise i j f g less (at_left fs (n ∷ []) i f a) (at_left fs (n ∷ []) j g b)

pub rises_last : (fs : List ℕ) (n : ℕ) → Rises (fs ++ n ∷ []) → (f : ℕ) → Among f fs → f < n
rises_last fs n rise f h =
    let at = among_at f fs h in
    rise at.0 (length fs) f n (at_within fs at.0 f at.1) (at_left fs (n ∷ []) at.0 f at.1) (at_push fs n)
