-- Trees stay as a table grows, and as more depth is allowed.
use Rattle.std.proofs.Common.{◌≡◌, ℕ, zero, suc, ◌≤◌, List, [], ◌∷◌, Option, None, Some, slice_get, refl, ap, ap₂, ◌∙◌, arith}
use Rattle.std.specs.Option.{option_map, option_and_then}
use Rattle.typed_syntax.specs.Types.{TypeTree, PartTypes, struct_of, array_of}
use Rattle.base.specs.declared.ids.TypeId.{TypeId}
use Rattle.base.specs.declared.value_type.ValueType.{ValueType}
use Rattle.base.specs.declared.value_type.ValueType.TheVariants.{Int, Bool as Truth, Struct, Array, Pointer, Slice}
use Rattle.typed.specs.Tables.{Table, fields_of}
use Rattle.typed.specs.Trees.{part_by, more_by, parts_by, tree_by, tree_within, tree_of, depth_of}
use Rattle.typed.specs.Formed.{KeepsTrees}

-- a table has the types of another one and the fields that it tells, and maybe more
pub record Grows (T U : Table) : Type 0 where
  pub types : (i : ℕ) (t : ValueType) → slice_get T.types i ≡ Some t → slice_get U.types i ≡ Some t
  pub fields : (s : ℕ) (fields : List TypeId) → fields_of T s ≡ Some fields → fields_of U s ≡ Some fields

pub same_table : (T : Table) → Grows T T
same_table T = record { types = λ i t p. p; fields = λ s fields p. p }

then_grows : {A B : Type 0} (o u : Option A) (f h : A → Option B) (x : B) → ((a : A) → o ≡ Some a → u ≡ Some a) → ((a : A) → f a ≡ Some x → h a ≡ Some x) → option_and_then f o ≡ Some x → option_and_then h u ≡ Some x
then_grows None u f h x a b p = absurd cc p
then_grows (Some y) u f h x a b p = ap (option_and_then h) (a y refl) ∙ b y p

map_grows : {A B : Type 0} (o u : Option A) (f : A → B) (x : B) → ((a : A) → o ≡ Some a → u ≡ Some a) → option_map f o ≡ Some x → option_map f u ≡ Some x
map_grows None u f x a p = absurd cc p
map_grows (Some y) u f x a p = ap (option_map f) (a y refl) ∙ p

more_grows : (o u : Option TypeTree) (os us : Option PartTypes) (xs : PartTypes) → ((x : TypeTree) → o ≡ Some x → u ≡ Some x) → ((ys : PartTypes) → os ≡ Some ys → us ≡ Some ys) → more_by o os ≡ Some xs → more_by u us ≡ Some xs
more_grows None u os us xs a b p = absurd cc p
more_grows (Some y) u None us xs a b p = absurd cc p
more_grows (Some y) u (Some ys) us xs a b p = ap₂ more_by (a y refl) (b ys refl) ∙ p

module _ (T U : Table) (g : Grows T U) (f h : ValueType → Option TypeTree) (stays : (t : ValueType) (x : TypeTree) → f t ≡ Some x → h t ≡ Some x) where
  pub part_grows : (i : ℕ) (x : TypeTree) → part_by T f i ≡ Some x → part_by U h i ≡ Some x
  part_grows i x p = then_grows (slice_get T.types i) (slice_get U.types i) f h x (g.types i) (λ t. stays t x) p

  pub parts_grow : (es : List TypeId) (xs : PartTypes) → parts_by T f es ≡ Some xs → parts_by U h es ≡ Some xs
  parts_grow [] xs p = p
  parts_grow (e ∷ es) xs p = more_grows (part_by T f e.0) (part_by U h e.0) (parts_by T f es) (parts_by U h es) xs (part_grows e.0) (parts_grow es) p

  pub tree_grows : (t : ValueType) (x : TypeTree) → tree_by T f t ≡ Some x → tree_by U h t ≡ Some x
  tree_grows Int x p = p
  tree_grows Truth x p = p
  tree_grows (Struct s) x p =
      then_grows (fields_of T s.0) (fields_of U s.0) (λ fs. option_map struct_of (parts_by T f fs)) (λ fs. option_map struct_of (parts_by U h fs)) x (g.fields s.0)
      (λ fs. map_grows (parts_by T f fs) (parts_by U h fs) struct_of x (parts_grow fs)) p
  tree_grows (Pointer e) x p = p
  tree_grows (Slice e) x p = p
  tree_grows (Array n e) x p = map_grows (part_by T f e.0) (part_by U h e.0) (array_of n) x (part_grows e.0) p

pub within_grows : (T U : Table) → Grows T U → (c d : ℕ) → c ≤ d → (t : ValueType) (x : TypeTree) → tree_within T c t ≡ Some x → tree_within U d t ≡ Some x
within_grows T U g zero d l t x p = absurd cc p
within_grows T U g (suc c) zero l t x p = absurd (omega arith)
within_grows T U g (suc c) (suc d) l t x p = tree_grows T U g (tree_within T c) (tree_within U d) (within_grows T U g c d (omega arith)) t x p

pub keeps : (T U : Table) → Grows T U → depth_of T ≤ depth_of U → KeepsTrees T U
unfolding tree_of
keeps T U g l t x p = within_grows T U g (depth_of T) (depth_of U) l t x p
