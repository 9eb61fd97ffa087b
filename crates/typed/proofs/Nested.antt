-- The depth that is allowed is enough: the tree of each type is made of those of its parts.
use Rattle.std.proofs.Common.{◌≡◌, ℕ, zero, suc, ◌+◌, ◌*◌, ◌<◌, ◌≤◌, List, length, Option, None, Some, slice_get, refl, sym, ap, ◌∙◌, arith}
use Rattle.std.specs.Option.{option_map, option_and_then}
use Rattle.std.proofs.lemmas.Option.{slice_get_within}
use Rattle.typed_syntax.specs.Types.{TypeTree, struct_of, array_of}
use Rattle.base.specs.declared.ids.TypeId.{TypeId}
use Rattle.base.specs.declared.ids.StructId.{StructId}
use Rattle.base.specs.declared.value_type.ValueType.{ValueType}
use Rattle.base.specs.declared.value_type.ValueType.TheVariants.{Int, Bool as Truth, Struct, Array, Pointer, Slice}
use Rattle.typed.specs.Tables.{Table, Holds, fields_of, told}
use Rattle.typed.specs.Trees.{part_by, parts_by, tree_within, tree_of, depth_of}
use Rattle.typed.specs.Formed.{IsFormed, IsPlaced, TreesAreMade}
use Rattle.typed.proofs.Growing.{same_table, within_grows}

-- the depth within which the structs that are told nest
abbrev pub base_of : Table → ℕ
base_of T = told T.structs * suc (length T.types)

pub depth_is : (T : Table) → depth_of T ≡ suc (base_of T + length T.types)
depth_is T = omega arith

then_same : {A B : Type 0} (o : Option A) (f h : A → Option B) → ((a : A) → o ≡ Some a → f a ≡ h a) → option_and_then f o ≡ option_and_then h o
then_same None f h same = refl
then_same (Some a) f h same = same a refl

pub part_same : (T : Table) (f h : ValueType → Option TypeTree) (i : ℕ) → ((t : ValueType) → Holds T i t → f t ≡ h t) → part_by T f i ≡ part_by T h i
part_same T f h i same = then_same (slice_get T.types i) f h same

-- the elements of an array of the table, or under a number, stand before it
abbrev pub IsBehind : Table → ℕ → ValueType → Type 0
IsBehind T i (Array n e) = (t : ValueType) → Holds T e.0 t → e.0 < i
IsBehind T i t = Unit {0}

pub behind_placed : (T : Table) (i j : ℕ) (t : ValueType) → IsPlaced i t → i ≤ j → IsBehind T j t
behind_placed T i j Int p l = tt
behind_placed T i j Truth p l = tt
behind_placed T i j (Struct s) p l = tt
behind_placed T i j (Array n e) p l = λ t h. let k = p.0 in omega arith
behind_placed T i j (Pointer e) p l = tt
behind_placed T i j (Slice e) p l = tt

pub behind_all : (T : Table) (t : ValueType) → IsBehind T (length T.types) t
behind_all T Int = tt
behind_all T Truth = tt
behind_all T (Struct s) = tt
behind_all T (Array n e) = λ t h. slice_get_within T.types e.0 t h
behind_all T (Pointer e) = tt
behind_all T (Slice e) = tt

-- what is needed of a table for that
pub record IsDeep (T : Table) : Type 0 where
  pub placed : (i : ℕ) (t : ValueType) → Holds T i t → IsPlaced i t
  pub nested : (s : StructId) (fields : List TypeId) → fields_of T s.0 ≡ Some fields → (x : TypeTree) × (tree_within T (base_of T) (Struct s) ≡ Some x)

pub deep : (T : Table) → IsFormed T → IsDeep T
deep T formed = record { placed = formed.placed; nested = formed.nested }

module _ (T : Table) (formed : IsDeep T) where
  struct_fixed : (k d : ℕ) (s : StructId) → base_of T ≤ k → base_of T ≤ d → tree_within T (suc k) (Struct s) ≡ tree_within T (suc d) (Struct s)
  struct_fixed k d s lk ld = by (fields_of T s.0) refl
    where
      by : (o : Option (List TypeId)) → fields_of T s.0 ≡ o → tree_within T (suc k) (Struct s) ≡ tree_within T (suc d) (Struct s)
      by None p =
          ap (option_and_then (λ fs. option_map struct_of (parts_by T (tree_within T k) fs))) p ∙ sym (ap (option_and_then (λ fs. option_map struct_of (parts_by T (tree_within T d) fs))) p)
      by (Some fs) p =
          let x = formed.nested s fs p in
          within_grows T T (same_table T) (base_of T) (suc k) (omega arith) (Struct s) x.0 x.1 ∙ sym (within_grows T T (same_table T) (base_of T) (suc d) (omega arith) (Struct s) x.0 x.1)

  array_fixed : (k d n : ℕ) (e : TypeId) → ((t : ValueType) → Holds T e.0 t → tree_within T k t ≡ tree_within T d t) → tree_within T (suc k) (Array n e) ≡ tree_within T (suc d) (Array n e)
  array_fixed k d n e same = ap (option_map (array_of n)) (part_same T (tree_within T k) (tree_within T d) e.0 same)

  -- a type that stands after its parts has its tree within the depth `base_of`
  pub fixed : (i k d : ℕ) (t : ValueType) → IsBehind T i t → base_of T + i ≤ k → base_of T + i ≤ d → tree_within T (suc k) t ≡ tree_within T (suc d) t
  fixed i k d Int b lk ld = refl
  fixed i k d Truth b lk ld = refl
  fixed i k d (Struct s) b lk ld = struct_fixed k d s (omega arith) (omega arith)
  fixed i k d (Pointer e) b lk ld = refl
  fixed i k d (Slice e) b lk ld = refl
  fixed zero k d (Array n e) b lk ld = array_fixed k d n e (λ t h. let l : e.0 < 0 = b t h in absurd (omega arith))
  fixed (suc i) zero d (Array n e) b lk ld = absurd (omega arith)
  fixed (suc i) (suc k) zero (Array n e) b lk ld = absurd (omega arith)
  fixed (suc i) (suc k) (suc d) (Array n e) b lk ld =
      array_fixed (suc k) (suc d) n e (λ t h. let l : e.0 < suc i = b t h in fixed i k d t (behind_placed T e.0 i t (formed.placed e.0 t h) (omega arith)) (omega arith) (omega arith))

  -- from there on more depth changes nothing
  pub deeper : (k : ℕ) (t : ValueType) → depth_of T ≤ k → tree_within T k t ≡ tree_within T (depth_of T) t
  deeper zero t l = absurd (omega (arith, depth_is T))
  deeper (suc k) t l =
      fixed (length T.types) k (base_of T + length T.types) t (behind_all T t) (omega (arith, depth_is T)) (omega arith)
      ∙ ap (λ d. tree_within T d t) (sym (depth_is T))

  pub made_by : TreesAreMade T
  unfolding tree_of
  made_by t = sym (deeper (suc (depth_of T)) t (omega arith))

pub made : (T : Table) → IsFormed T → TreesAreMade T
made T formed = made_by T (deep T formed)

-- a struct that's told has a tree
pub told_tree_by : (T : Table) → IsDeep T → (r : StructId) (fields : List TypeId) → fields_of T r.0 ≡ Some fields → (x : TypeTree) × (tree_of T (Struct r) ≡ Some x)
unfolding tree_of
told_tree_by T nests r fields p =
    let x = nests.nested r fields p in
    let k = depth_is T in
    (x.0, within_grows T T (same_table T) (base_of T) (depth_of T) (omega arith) (Struct r) x.0 x.1)

pub told_tree : (T : Table) → IsFormed T → (r : StructId) (fields : List TypeId) → fields_of T r.0 ≡ Some fields → (x : TypeTree) × (tree_of T (Struct r) ≡ Some x)
told_tree T formed = told_tree_by T (deep T formed)

-- and one that isn't has none
pub untold_tree : (T : Table) (r : StructId) → fields_of T r.0 ≡ None → tree_of T (Struct r) ≡ None
unfolding tree_of
untold_tree T r none =
    ap (λ d. tree_within T d (Struct r)) (depth_is T)
    ∙ ap (option_and_then (λ fs. option_map struct_of (parts_by T (tree_within T (base_of T + length T.types)) fs))) none
