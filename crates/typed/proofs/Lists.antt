-- Lists by their indices.
use Rattle.std.proofs.Common.{take, ◌||◌, Bool, true, false, ◌≡◌, ℕ, zero, suc, ◌+◌, ◌<◌, List, [], ◌∷◌, ◌++◌, length, slice_get, slice_set, get_or, map, Some, refl, sym, ap, ap₂, ◌∙◌, ◌⊎◌, inl, inr, arith}
use Rattle.std.specs.List.{list_any}
use Rattle.std.proofs.lemmas.List.{map-append, take_more}
use Rattle.std.proofs.lemmas.List.Folds.{list_any-append}

-- what stands at an index, where the list grew at its end
pub get_front : {X : Type 0} (xs : List X) (y : X) (i : ℕ) (x : X) → slice_get xs i ≡ Some x → slice_get (xs ++ y ∷ []) i ≡ Some x
get_front [] y i x p = absurd cc p
get_front (z ∷ xs) y zero x p = p
get_front (z ∷ xs) y (suc i) x p = get_front xs y i x p

pub get_within : {X : Type 0} (xs : List X) (y : X) (i : ℕ) → i < length xs → slice_get (xs ++ y ∷ []) i ≡ slice_get xs i
get_within [] y i l = absurd (omega arith)
get_within (z ∷ xs) y zero l = refl
get_within (z ∷ xs) y (suc i) l = get_within xs y i (omega arith)

pub get_end : {X : Type 0} (xs : List X) (y : X) → slice_get (xs ++ y ∷ []) (length xs) ≡ Some y
get_end [] y = refl
get_end (z ∷ xs) y = get_end xs y

-- what stands in a list that grew stood there, or is new
pub get_grown : {X : Type 0} (xs : List X) (y : X) (i : ℕ) (x : X) → slice_get (xs ++ y ∷ []) i ≡ Some x → (slice_get xs i ≡ Some x) ⊎ ((i ≡ length xs) × (y ≡ x))
get_grown [] y zero x p = inr (refl, cc)
get_grown [] y (suc i) x p = absurd cc p
get_grown (z ∷ xs) y zero x p = inl p
get_grown (z ∷ xs) y (suc i) x p =
    elim (get_grown xs y i x p) [ inl q ↦ inl q | inr q ↦ inr (ap suc q.0, q.1) ]

-- two maps agree where they do at each index
pub map_same : {X Y : Type 0} (f h : X → Y) (xs : List X) → ((i : ℕ) (x : X) → slice_get xs i ≡ Some x → f x ≡ h x) → map f xs ≡ map h xs
map_same f h [] same = refl
map_same f h (x ∷ xs) same = ap₂ (λ y ys. y ∷ ys) (same 0 x refl) (map_same f h xs (λ i. same (suc i)))

-- the front of a list has what the list has there
pub get_map_take : {X Y : Type 0} (f : X → Y) (xs : List X) (i k : ℕ) (d : Y) → k < i → get_or (map f (take i xs)) k d ≡ get_or (map f xs) k d
get_map_take f [] zero k d l = refl
get_map_take f [] (suc i) k d l = refl
get_map_take f (x ∷ xs) zero k d l = absurd (omega arith)
get_map_take f (x ∷ xs) (suc i) zero d l = refl
get_map_take f (x ∷ xs) (suc i) (suc k) d l = get_map_take f xs i k d (omega arith)

-- what passes at an index passes somewhere
pub any_at : {X : Type 0} (p : X → Bool) (xs : List X) (i : ℕ) (d : X) → i < length xs → p (get_or xs i d) ≡ true → list_any p xs ≡ true
any_at p [] i d l e = absurd (omega arith)
any_at p (x ∷ xs) zero d l e = ap (λ b. b || list_any p xs) e
any_at p (x ∷ xs) (suc i) d l e = by (p x) (any_at p xs i d (omega arith) e)
  where
    by : (b : Bool) → list_any p xs ≡ true → (b || list_any p xs) ≡ true
    by true q = refl
    by false q = q

-- and nothing passes anywhere where nothing passes in the list
pub none_at : {X : Type 0} (p : X → Bool) (xs : List X) (i : ℕ) (x : X) → list_any p xs ≡ false → slice_get xs i ≡ Some x → p x ≡ false
none_at p [] i x e h = absurd cc h
none_at p (y ∷ ys) zero x e h = let q : y ≡ x = cc in ap p (sym q) ∙ left (p y) (list_any p ys) e
  where
    left : (a b : Bool) → (a || b) ≡ false → a ≡ false
    left true b q = q
    left false b q = refl
none_at p (y ∷ ys) (suc i) x e h = none_at p ys i x (right (p y) (list_any p ys) e) h
  where
    right : (a b : Bool) → (a || b) ≡ false → b ≡ false
    right true b q = absurd cc q
    right false b q = q

-- one more item of the front
pub map_take_more : {X Y : Type 0} (f : X → Y) (xs : List X) (i : ℕ) (d : X) → i < length xs → map f (take (i + 1) xs) ≡ map f (take i xs) ++ f (get_or xs i d) ∷ []
map_take_more f xs i d l = ap (map f) (take_more xs i d l) ∙ map-append f (take i xs) (get_or xs i d ∷ [])

pub none_take_more : {X : Type 0} (p : X → Bool) (xs : List X) (i : ℕ) (d : X) → i < length xs → list_any p (take i xs) ≡ false → p (get_or xs i d) ≡ false → list_any p (take (i + 1) xs) ≡ false
none_take_more p xs i d l e q =
    ap (list_any p) (take_more xs i d l) ∙ list_any-append p (take i xs) (get_or xs i d ∷ []) ∙ ap₂ (λ a b. a || (b || false)) e q

-- what stands in a list with another item at an index
pub get_set : {X : Type 0} (xs : List X) (s r : ℕ) (y x : X) → slice_get (slice_set xs s y) r ≡ Some x → ((r ≡ s) × (y ≡ x)) ⊎ ((r ≡ s → ⊥) × (slice_get xs r ≡ Some x))
get_set [] s r y x h = absurd cc h
get_set (z ∷ xs) zero zero y x h = inl (refl, cc)
get_set (z ∷ xs) zero (suc r) y x h = inr (λ e. omega arith, h)
get_set (z ∷ xs) (suc s) zero y x h = inr (λ e. omega arith, h)
get_set (z ∷ xs) (suc s) (suc r) y x h =
    elim (get_set xs s r y x h) [ inl a ↦ inl (ap suc a.0, a.1) | inr a ↦ inr (λ e. a.0 (let q : r ≡ s = omega arith in q), a.1) ]

pub map_set : {X Y : Type 0} (f : X → Y) (xs : List X) (s : ℕ) (y : X) → map f (slice_set xs s y) ≡ slice_set (map f xs) s (f y)
map_set f [] s y = refl
map_set f (x ∷ xs) zero y = refl
map_set f (x ∷ xs) (suc s) y = ap (λ ys. f x ∷ ys) (map_set f xs s y)

pub map_map : {X Y Z : Type 0} (f : X → Y) (h : Y → Z) (xs : List X) → map h (map f xs) ≡ map (λ x. h (f x)) xs
map_map f h [] = refl
map_map f h (x ∷ xs) = ap (λ ys. h (f x) ∷ ys) (map_map f h xs)

pub nothing_left : {X : Type 0} (l : List X) → length l ≡ 0 → l ≡ []
nothing_left [] h = refl
nothing_left (x ∷ xs) h = absurd (omega arith)
