-- In a table without slices no type has a slice in it, so values of each can be compared.
use Rattle.std.proofs.Common.{◌≡◌, ℕ, zero, suc, List, [], ◌∷◌, Option, Some, None, refl, sym, subst}
use Rattle.std.specs.Prelude.{option_and_then, slice_get}
use Rattle.std.specs.Option.{option_map, unwrap_or}
use Rattle.base.specs.declared.ids.TypeId.{TypeId}
use Rattle.base.specs.declared.value_type.ValueType.{ValueType}
use Rattle.base.specs.declared.value_type.ValueType.TheVariants.{Int, Bool as Truth, Struct, Array, Pointer, Slice}
use Rattle.typed_syntax.specs.Types.{TypeTree, PartTypes, ints, struct_of, array_of}
use Rattle.typed_syntax.specs.Form.{HasNoSlice, HaveNoSlice, IsComparable}
use Rattle.typed.specs.Tables.{Table, Holds, fields_of}
use Rattle.typed.specs.Trees.{part_by, parts_by, tree_within, tree_of, depth_of, tree_named}
use Rattle.typed.specs.Formed.{IsFormed}
use Rattle.typed.proofs.Entered.{more_is}
use Rattle.type_faults.proofs.Options.{and_then_some, map_some, none_some, same_some}
use Rattle.names.proofs.Trees.{named_tree, solid}

-- no type of a table is a slice
abbrev pub HoldsNoSlice : Table → Type 0
HoldsNoSlice T = (i : ℕ) (e : TypeId) → Holds T i (Slice e) → ⊥

module _ (T : Table) (no_slice : HoldsNoSlice T) where
  -- where these are the trees of the types, those of the table have no slice in them
  abbrev AreFree : (ValueType → Option TypeTree) → Type 0
  AreFree tree = (i : ℕ) (t : ValueType) (x : TypeTree) → Holds T i t → tree t ≡ Some x → HasNoSlice x

  part_free : (tree : ValueType → Option TypeTree) → AreFree tree → (i : ℕ) (x : TypeTree) → part_by T tree i ≡ Some x → HasNoSlice x
  part_free tree free i x is = let p = and_then_some tree (slice_get T.types i) x is in free i p.0 x p.1 p.2

  parts_free : (tree : ValueType → Option TypeTree) → AreFree tree → (es : List TypeId) (xs : PartTypes) → parts_by T tree es ≡ Some xs → HaveNoSlice xs
  parts_free tree free [] xs is = subst HaveNoSlice (same_some is) tt
  parts_free tree free (e ∷ es) xs is =
      let m = more_is (part_by T tree e.0) (parts_by T tree es) xs is in
      subst HaveNoSlice m.4 (part_free tree free e.0 m.0 m.2, parts_free tree free es m.1 m.3)

  free_within : (depth : ℕ) → AreFree (tree_within T depth)
  free_within zero i t x at is = absurd (none_some is)
  free_within (suc depth) i Int x at is = subst HasNoSlice (same_some is) tt
  free_within (suc depth) i Truth x at is = subst HasNoSlice (same_some is) tt
  free_within (suc depth) i (Struct s) x at is =
      let p = and_then_some (λ fields. option_map struct_of (parts_by T (tree_within T depth) fields)) (fields_of T s.0) x is in
      let q = map_some struct_of (parts_by T (tree_within T depth) p.0) x p.2 in
      subst HasNoSlice q.2 (parts_free (tree_within T depth) (free_within depth) p.0 q.0 q.1)
  free_within (suc depth) i (Array n e) x at is =
      let q = map_some (array_of n) (part_by T (tree_within T depth) e.0) x is in
      subst HasNoSlice q.2 (part_free (tree_within T depth) (free_within depth) e.0 q.0 q.1)
  free_within (suc depth) i (Pointer e) x at is = subst HasNoSlice (same_some is) tt
  free_within (suc depth) i (Slice e) x at is = absurd (no_slice i e at)

  are_free : AreFree (tree_of T)
  unfolding tree_of
  are_free = free_within (depth_of T)

  -- what has no tree counts as a whole number
  free_named : (i : ℕ) → HasNoSlice (tree_named T i)
  free_named i = subst HasNoSlice (sym (named_tree T T.types i)) (by (part_by T (tree_of T) i) refl)
    where
      by : (o : Option TypeTree) → part_by T (tree_of T) i ≡ o → HasNoSlice (unwrap_or o ints)
      by None is = tt
      by (Some x) is = part_free (tree_of T) are_free i x is

  pub comparable : IsFormed T → (i : ℕ) → IsComparable (tree_named T i)
  comparable formed i = (solid T formed i, free_named i)
