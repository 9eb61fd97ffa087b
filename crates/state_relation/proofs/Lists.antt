-- Items of lists that are there, and cells of a store that are written.
use Rattle.std.proofs.Common.{◌≡◌, ◌≢◌, ◌⊎◌, inl, inr, ℕ, zero, suc, ◌+◌, ◌<◌, ◌≤◌, true, false, List, [], ◌∷◌, ◌++◌, length, Some, None, refl, ap, ◌∙◌, arith, get_or}
use Rattle.std.specs.Prelude.{slice_get}
use Rattle.typed_syntax.specs.Value.{Value}
use Rattle.typed_syntax.specs.Paths.{with_path}
use Rattle.meaning.specs.Trace.{Cell}
use Rattle.meaning.specs.Store.{with_value, change}

pub some_same : {A : Type 0} {x y : A} → Some x ≡ Some y → x ≡ y
some_same e = cc

pub true_false : true ≡ false → ⊥
true_false e = cc

pub none_some : {A : Type 0} {x : A} → None ≡ Some x → ⊥
none_some e = cc

pub less_or : (i j : ℕ) → (i < j) ⊎ (j ≤ i)
less_or i zero = inr (omega arith)
less_or zero (suc j) = inl (omega arith)
less_or (suc i) (suc j) = elim (less_or i j) [ inl p ↦ inl (omega arith) | inr p ↦ inr (omega arith) ]

pub append_cases : {X : Type 0} (xs ys : List X) (y : X) (i : ℕ) → slice_get (xs ++ ys) i ≡ Some y → (slice_get xs i ≡ Some y) ⊎ ((j : ℕ) × (i ≡ length xs + j) × (slice_get ys j ≡ Some y))
append_cases [] ys y i e = let z : i ≡ 0 + i = omega arith in inr (i, z, e)
append_cases (z ∷ xs) ys y zero e = inl e
append_cases (z ∷ xs) ys y (suc i) e = elim (append_cases xs ys y i e) [ inl h ↦ inl h | inr h ↦ let q = h.1 in let z : suc i ≡ suc (length xs) + h.0 = omega arith in inr (h.0, z, h.2) ]

pub append_old : {X : Type 0} (xs ys : List X) (y : X) (i : ℕ) → slice_get xs i ≡ Some y → slice_get (xs ++ ys) i ≡ Some y
append_old [] ys y i e = absurd (none_some e)
append_old (z ∷ xs) ys y zero e = e
append_old (z ∷ xs) ys y (suc i) e = append_old xs ys y i e

pub append_new : {X : Type 0} (xs ys : List X) (j : ℕ) → slice_get (xs ++ ys) (length xs + j) ≡ slice_get ys j
append_new [] ys j = let z : 0 + j ≡ j = omega arith in ap (slice_get ys) z
append_new (z ∷ xs) ys j = let e : suc (length xs) + j ≡ suc (length xs + j) = omega arith in ap (slice_get (z ∷ (xs ++ ys))) e ∙ append_new xs ys j

pub one_item : {X : Type 0} (x y : X) (i : ℕ) → slice_get (x ∷ []) i ≡ Some y → (i ≡ 0) × (x ≡ y)
one_item x y zero e = (refl, some_same e)
one_item x y (suc i) e = absurd (none_some e)

-- the item that is there is the one with a default
pub get_is : {X : Type 0} (xs : List X) (i : ℕ) (x none : X) → slice_get xs i ≡ Some x → get_or xs i none ≡ x
get_is [] i x none e = absurd (none_some e)
get_is (y ∷ xs) zero x none e = some_same e
get_is (y ∷ xs) (suc i) x none e = get_is xs i x none e

-- the cells of a store after a write
pub change_same : (cs : List Cell) (x : ℕ) (path : List ℕ) (v : Value) (c : Cell) → slice_get cs x ≡ Some c → slice_get (change cs x path v) x ≡ Some (with_value c (with_path c.value path v))
change_same [] x path v c e = absurd (none_some e)
change_same (d ∷ cs) zero path v c e = ap (λ (y : Cell). Some (with_value y (with_path y.value path v))) (some_same e)
change_same (d ∷ cs) (suc x) path v c e = change_same cs x path v c e

pub change_other : (cs : List Cell) (x z : ℕ) (path : List ℕ) (v : Value) → z ≢ x → slice_get (change cs x path v) z ≡ slice_get cs z
change_other [] x z path v ne = refl
change_other (c ∷ cs) zero zero path v ne = absurd (ne refl)
change_other (c ∷ cs) zero (suc z) path v ne = refl
change_other (c ∷ cs) (suc x) zero path v ne = refl
change_other (c ∷ cs) (suc x) (suc z) path v ne = change_other cs x z path v (λ e. ne (ap suc e))

pub change_length : (cs : List Cell) (x : ℕ) (path : List ℕ) (v : Value) → length (change cs x path v) ≡ length cs
change_length [] x path v = refl
change_length (c ∷ cs) zero path v = refl
change_length (c ∷ cs) (suc x) path v = ap suc (change_length cs x path v)
