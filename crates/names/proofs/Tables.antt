-- Tables of names in memory, as lists of names with their numbers.
use Rattle.std.proofs.Common.{◌≡◌, ℕ, Bool, true, false, cond, List, [], ◌∷◌, ◌++◌, Option, Some, None, refl, ap, sym, ◌∙◌, map, ◌+◌, ◌<◌, length, take, get_or}
use Rattle.std.specs.Global.{Vec as Bytes}
use Rattle.std.specs.Str.{bytes_eq}
use Rattle.std.specs.Map.{lookup as first_value}
use Rattle.std.specs.Prelude.{reverse}
use Rattle.std.proofs.lemmas.List.{map-append, reverse-append, take_more}
use Rattle.indexmap.specs.IndexMap.{insert_entry}
use Rattle.names.specs.Blocks.{Table, entry_of, names_of, with_entry, lookup, outer_of, or_else}

-- an entry in memory, as a name with its number
abbrev entry : Bytes ℕ × ℕ → List ℕ × ℕ
entry e = (e.0.items, e.1)

at_cond : (b : Bool) (k : ℕ) (x y : Option ℕ) → x ≡ y → cond b (Some k) x ≡ cond b (Some k) y
at_cond b k x y e = ap (cond b (Some k)) e

pub entries_looked_up : (es : List (Bytes ℕ × ℕ)) (name : List ℕ) → first_value (λ k. bytes_eq name k.items) es ≡ entry_of (map entry es) name
entries_looked_up [] name = refl
entries_looked_up (e ∷ es) name = at_cond (bytes_eq name e.0.items) e.1 _ _ (entries_looked_up es name)

pub entries_inserted : (es : List (Bytes ℕ × ℕ)) (key : Bytes ℕ) (k : ℕ) → map entry (insert_entry (λ x y. bytes_eq x.items y.items) es key k) ≡ with_entry (map entry es) key.items k
entries_inserted [] key k = refl
entries_inserted (e ∷ es) key k = split (entries_inserted es key k) (bytes_eq key.items e.0.items)
  where
    split : map entry (insert_entry (λ x y. bytes_eq x.items y.items) es key k) ≡ with_entry (map entry es) key.items k → (b : Bool)
        → map entry (cond b ((e.0, k) ∷ es) (e ∷ insert_entry (λ x y. bytes_eq x.items y.items) es key k)) ≡ cond b ((e.0.items, k) ∷ map entry es) (entry e ∷ with_entry (map entry es) key.items k)
    split h true = refl
    split h false = ap (λ l. entry e ∷ l) h

-- the next block out stands last
outer_of-push : (ts : List Table) (t : Table) → outer_of (ts ++ t ∷ []) ≡ names_of t ∷ outer_of ts
outer_of-push ts t = ap reverse (map-append names_of ts (t ∷ [])) ∙ reverse-append (map names_of ts) (names_of t ∷ [])

-- the blocks out to the n-th are those out to the one before, and it
pub outer_of-take : (ts : List Table) (n : ℕ) (t : Table) → n < length ts → t ≡ get_or ts n t → outer_of (take (n + 1) ts) ≡ names_of t ∷ outer_of (take n ts)
outer_of-take ts n t lt is = ap outer_of (take_more ts n t lt ∙ ap (λ (x : Table). take n ts ++ x ∷ []) (sym is)) ∙ outer_of-push (take n ts) t

-- a name that the n-th block has not is looked up in those before it
pub passed : (ts : List Table) (n : ℕ) (t : Table) (name : List ℕ) → n < length ts → t ≡ get_or ts n t → entry_of (names_of t) name ≡ None → lookup (outer_of (take (n + 1) ts)) name ≡ lookup (outer_of (take n ts)) name
passed ts n t name lt is none = ap (λ bs. lookup bs name) (outer_of-take ts n t lt is) ∙ ap (λ k. or_else k (lookup (outer_of (take n ts)) name)) none

-- a name that the n-th block has is found there
pub found : (ts : List Table) (n : ℕ) (t : Table) (name : List ℕ) (k : ℕ) → n < length ts → t ≡ get_or ts n t → entry_of (names_of t) name ≡ Some k → lookup (outer_of (take (n + 1) ts)) name ≡ Some k
found ts n t name k lt is some = ap (λ bs. lookup bs name) (outer_of-take ts n t lt is) ∙ ap (λ j. or_else j (lookup (outer_of (take n ts)) name)) some
