-- Lists of any elements: what is left from one on, what is joined, what a new last element makes.
use Rattle.std.proofs.Common.{◌≡◌, ℕ, zero, suc, ◌+◌, ◌<◌, get_or, ◌≤◌, take, drop, map, Bool, true, false, List, [], ◌∷◌, ◌++◌, Option, Some, None, refl, sym, ap, ◌∙◌, length, arith, append_assoc, append-nil}
use Rattle.std.specs.Prelude.{option_and_then, ◌&&◌}
use Rattle.std.specs.Option.{option_map}
use Rattle.std.specs.Global.{Vec}
use Rattle.std.proofs.Math.Seq.{drop-cons}
use Rattle.std.proofs.lemmas.List.{map-append}
use Rattle.type_faults.specs.Given.{with_last}

-- the elements of a list from one on
pub from_one : {A : Type 0} (xs : List A) (i : ℕ) (x : A) → i < length xs → x ≡ get_or xs i x → drop i xs ≡ x ∷ drop (i + 1) xs
from_one xs i x l is =
    let one : suc i ≡ i + 1 = omega arith in
    drop-cons xs i x l ∙ ap (λ y. y ∷ drop (suc i) xs) (sym is) ∙ ap (λ j. x ∷ drop j xs) one

pub nothing_left : {A : Type 0} (xs : List A) (i : ℕ) → (i < length xs → ⊥) → drop i xs ≡ []
nothing_left [] zero h = refl
nothing_left [] (suc i) h = refl
nothing_left (x ∷ xs) zero h = absurd (h (omega arith))
nothing_left (x ∷ xs) (suc i) h = nothing_left xs i (λ l. h (omega (arith, l)))

pub map_take : {A B : Type 0} (f : A → B) (n : ℕ) (xs : List A) → map f (take n xs) ≡ take n (map f xs)
map_take f zero [] = refl
map_take f zero (x ∷ xs) = refl
map_take f (suc n) [] = refl
map_take f (suc n) (x ∷ xs) = ap (λ l. f x ∷ l) (map_take f n xs)

pub take_all : {A : Type 0} (n : ℕ) (xs : List A) → length xs ≤ n → take n xs ≡ xs
take_all zero [] le = refl
take_all zero (x ∷ xs) le = absurd (omega (arith, le))
take_all (suc n) [] le = refl
take_all (suc n) (x ∷ xs) le = ap (λ l. x ∷ l) (take_all n xs (omega (arith, le)))

-- those so far, and those still ahead
abbrev pub joined : {A : Type 0} → Option (List A) → Option (List A) → Option (List A)
joined a b = option_and_then (λ v. option_map (λ w. v ++ w) b) a

pub joined_none : {A : Type 0} (a : Option (List A)) → joined a (Some []) ≡ a
joined_none None = refl
joined_none (Some v) = ap Some (append-nil v)

pub joined_start : {A : Type 0} (b : Option (List A)) → joined (Some []) b ≡ b
joined_start None = refl
joined_start (Some w) = refl

pub joined_more : {A : Type 0} (a : Option (List A)) (x : Option A) (b : Option (List A)) → joined a (option_and_then (λ y. option_map (λ ys. y ∷ ys) b) x) ≡ joined (with_last a x) b
joined_more None x b = refl
joined_more (Some v) None b = refl
joined_more (Some v) (Some x) None = refl
joined_more (Some v) (Some x) (Some w) = ap Some (sym (append_assoc v (x ∷ []) w))

pub and_true : (b : Bool) → (b && true) ≡ b
and_true true = refl
and_true false = refl

pub and_all : (a b c : Bool) → (a && (b && c)) ≡ ((a && b) && c)
and_all true b c = refl
and_all false b c = refl

pub with_last_map : {A B : Type 0} (f : A → B) (values : Option (Vec A)) (x : Option A) (r : Option (Vec A))
    → option_map (λ (v : Vec A). v.items) r ≡ with_last (option_map (λ (v : Vec A). v.items) values) x
    → option_map (λ (v : Vec A). map f v.items) r ≡ with_last (option_map (λ (v : Vec A). map f v.items) values) (option_map f x)
with_last_map f None x None is = refl
with_last_map f None x (Some r) is = cc is
with_last_map f (Some v) None None is = refl
with_last_map f (Some v) None (Some r) is = cc is
with_last_map f (Some v) (Some x) None is = cc is
with_last_map f (Some v) (Some x) (Some r) is =
    let same : r.items ≡ v.items ++ x ∷ [] = some_same is in
    ap Some (ap (map f) same ∙ map-append f v.items (x ∷ []))
  where
    some_same : Some r.items ≡ Some (v.items ++ x ∷ []) → r.items ≡ v.items ++ x ∷ []
    some_same e = cc e

pub no_items : {A : Type 0} (xs : List A) → length xs ≡ 0 → xs ≡ []
no_items [] is = refl
no_items (x ∷ xs) is = absurd (omega (arith, is))

-- the elements of a list from one on, which is there
pub from_there : {A : Type 0} (xs : List A) (i : ℕ) (d : A) → i < length xs → drop i xs ≡ get_or xs i d ∷ drop (i + 1) xs
from_there xs i d l =
    let one : suc i ≡ i + 1 = omega arith in
    drop-cons xs i d l ∙ ap (λ j. get_or xs i d ∷ drop j xs) one
