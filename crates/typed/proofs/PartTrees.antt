-- The parts of the types of a table, by their numbers.
use Rattle.std.proofs.Common.{◌≡◌, ◌⊎◌, inl, inr, ℕ, zero, suc, ◌*◌, ◌<◌, ◌≤◌, nat_lt, Bool, true, false, List, [], ◌∷◌, length, get_or, map, min, Option, None, Some, is_some, IfSome, MatchOption, Bor, slice_get, refl, ap, ap₂, sym, subst, ◌∙◌, arith, suc-mul}
use Rattle.std.specs.Bool.{then_some}
use Rattle.std.specs.Option.{unwrap_or, option_map, option_copied, option_and_then}
use Rattle.std.proofs.lemmas.Bool.{ltb-true, ltb-false}
use Rattle.typed_syntax.specs.Types.{TypeTree, PartTypes, ints, bools, array_of, pointer_to, slice_of, no_types, width, repeated, nth_type, widths_before, part_type, part_offset}
use Rattle.base.specs.declared.ids.TypeId.{TypeId}
use Rattle.base.specs.declared.ids.StructId.{StructId}
use Rattle.base.specs.declared.value_type.ValueType.{ValueType}
use Rattle.base.specs.declared.value_type.ValueType.TheVariants.{Int, Bool as Truth, Struct, Array, Pointer, Slice}
use Rattle.typed.specs.Tables.{Table, Holds, type_at, fields_of}
use Rattle.typed.specs.Trees.{parts_by, tree_of, trees, tree_named, offset_in}
use Rattle.typed.specs.Formed.{IsFormed, tree_at, words_at}
use Rattle.typed.proofs.Nested.{made, untold_tree}
use Rattle.typed.proofs.Entered.{more_is}
use Rattle.typed.proofs.Offsets.{struct_parts}

-- what has no tree counts as a whole number
abbrev or_ints : Option TypeTree → TypeTree
or_ints o = unwrap_or o ints

-- ---- arrays

nth_repeated : (n : ℕ) (t : TypeTree) (i : ℕ) → i < n → nth_type (repeated n t) i ≡ t
nth_repeated zero t i l = absurd (omega arith)
nth_repeated (suc n) t zero l = refl
nth_repeated (suc n) t (suc i) l = nth_repeated n t i (omega arith)

nth_behind : (n : ℕ) (t : TypeTree) (i : ℕ) → n ≤ i → nth_type (repeated n t) i ≡ ints
nth_behind zero t i l = refl
nth_behind (suc n) t zero l = absurd (omega arith)
nth_behind (suc n) t (suc i) l = nth_behind n t i (omega arith)

before_repeated : (n : ℕ) (t : TypeTree) (i k : ℕ) → k ≡ min i n → widths_before (repeated n t) i ≡ k * width t
before_repeated zero t i k e = let z : k ≡ 0 = omega arith in omega (arith, ap (λ k. k * width t) z)
before_repeated (suc n) t zero k e = let z : k ≡ 0 = omega arith in omega (arith, ap (λ k. k * width t) z)
before_repeated (suc n) t (suc i) zero e = absurd (omega arith)
before_repeated (suc n) t (suc i) (suc k) e = omega (arith, before_repeated n t i k (omega arith), suc-mul k (width t))

-- the parts of arrays, and of what has no tree
element_type : (n : ℕ) (o : Option TypeTree) (i : ℕ) → i < n → or_ints o ≡ part_type (or_ints (option_map (array_of n) o)) i
element_type n None i l = refl
element_type n (Some x) i l = sym (nth_repeated n x i l)

behind_elements : (n : ℕ) (o : Option TypeTree) (i : ℕ) → n ≤ i → part_type (or_ints (option_map (array_of n) o)) i ≡ ints
behind_elements n None i l = refl
behind_elements n (Some x) i l = nth_behind n x i l

element_offset : (n : ℕ) (o : Option TypeTree) (i k : ℕ) → k ≡ min i n → k * unwrap_or (option_map width o) 0 ≡ part_offset (or_ints (option_map (array_of n) o)) i
element_offset n None i k e = omega arith
element_offset n (Some x) i k e = sym (before_repeated n x i k e)

-- ---- the trees by their numbers

named_in : (f : ValueType → Option TypeTree) (ts : List ValueType) (i : ℕ) → get_or (map (λ t. or_ints (f t)) ts) i ints ≡ or_ints (option_and_then f (slice_get ts i))
named_in f [] i = refl
named_in f (t ∷ ts) zero = refl
named_in f (t ∷ ts) (suc i) = named_in f ts i

named : (T : Table) (i : ℕ) → tree_named T i ≡ or_ints (tree_at T i)
named T i = named_in (tree_of T) T.types i

get_map : (f : ValueType → TypeTree) (ts : List ValueType) (i : ℕ) (d : ValueType) (e : TypeTree) → f d ≡ e → get_or (map f ts) i e ≡ f (get_or ts i d)
get_map f [] i d e p = sym p
get_map f (t ∷ ts) zero d e p = refl
get_map f (t ∷ ts) (suc i) d e p = get_map f ts i d e p

pub named_width : (T : Table) (i : ℕ) → unwrap_or (words_at T i) 1 ≡ width (tree_named T i)
named_width T i = by (tree_at T i) ∙ sym (ap width (named T i))
  where
    by : (o : Option TypeTree) → unwrap_or (option_map width o) 1 ≡ width (or_ints o)
    by None = refl
    by (Some x) = refl

-- the types of a struct's fields, and past them
nth_field : (T : Table) (es : List TypeId) (xs : PartTypes) (j : ℕ) (d : TypeId) → parts_by T (tree_of T) es ≡ Some xs → j < length es → tree_named T (get_or es j d).0 ≡ nth_type xs j
nth_field T [] xs j d p l = absurd (omega arith)
nth_field T (e ∷ es) xs zero d p l =
    let m = more_is (tree_at T e.0) (parts_by T (tree_of T) es) xs p in
    named T e.0 ∙ ap or_ints m.2 ∙ ap (λ x. nth_type x 0) m.4
nth_field T (e ∷ es) xs (suc j) d p l =
    let m = more_is (tree_at T e.0) (parts_by T (tree_of T) es) xs p in
    nth_field T es m.1 j d m.3 (omega arith) ∙ ap (λ x. nth_type x (suc j)) m.4

behind_fields : (T : Table) (es : List TypeId) (xs : PartTypes) (j : ℕ) → parts_by T (tree_of T) es ≡ Some xs → length es ≤ j → nth_type xs j ≡ ints
behind_fields T [] xs j p l = let e : no_types ≡ xs = cc in ap (λ x. nth_type x j) (sym e)
behind_fields T (e ∷ es) xs zero p l = absurd (omega arith)
behind_fields T (e ∷ es) xs (suc j) p l =
    let m = more_is (tree_at T e.0) (parts_by T (tree_of T) es) xs p in
    ap (λ x. nth_type x (suc j)) (sym m.4) ∙ behind_fields T es m.1 j m.3 (omega arith)

-- the type of a part, where there is one
abbrev pub IsPart : Table → ℕ → ℕ → Option TypeId → Type 0
IsPart T i j o = MatchOption o (part_type (tree_named T i) j ≡ ints) (λ part. tree_named T part.0 ≡ part_type (tree_named T i) j)

module _ (T : Table) (formed : IsFormed T) where
  int_tree : or_ints (tree_of T Int) ≡ ints
  int_tree = ap or_ints (made T formed Int)

  -- the tree of the type that has a number
  named_type : (i : ℕ) → tree_named T i ≡ or_ints (tree_of T (type_at T i))
  named_type i = get_map (λ t. or_ints (tree_of T t)) T.types i Int ints int_tree

  pub basic_trees : T.types ≡ Int ∷ Truth ∷ [] → trees T ≡ ints ∷ bools ∷ []
  basic_trees e =
      ap (map (λ t. or_ints (tree_of T t))) e ∙ ap₂ (λ a b. or_ints a ∷ or_ints b ∷ []) (made T formed Int) (made T formed Truth)

  pub first_named : tree_named T 0 ≡ ints
  first_named = named T 0 ∙ ap (λ o. or_ints (option_and_then (tree_of T) o)) formed.int ∙ int_tree

  -- the type of whole numbers stands first, and once
  pub int_named : (o : Option TypeId) (first : TypeId) → first.0 ≡ 0 → IfSome o (λ id. Holds T id.0 Int) → tree_named T (unwrap_or o first).0 ≡ ints
  int_named None first e h = ap (tree_named T) e ∙ first_named
  int_named (Some id) first e h = ap (tree_named T) (formed.once id.0 0 Int h formed.int) ∙ first_named

  module _ (i j : ℕ) where
    named_as : (t : ValueType) → t ≡ type_at T i → tree_named T i ≡ or_ints (tree_of T t)
    named_as t e = named_type i ∙ ap (λ t. or_ints (tree_of T t)) (sym e)

    pub part_or_first : (o : Option TypeId) (first : TypeId) → first.0 ≡ 0 → IsPart T i j o → tree_named T (unwrap_or o first).0 ≡ part_type (tree_named T i) j
    part_or_first None first e p = ap (tree_named T) e ∙ first_named ∙ sym p
    part_or_first (Some part) first e p = p

    -- whole numbers and truth values have no parts
    no_part : (P : TypeTree → Type 0) → P ints → P bools → (t : ValueType) → (t ≡ Int) ⊎ (t ≡ Truth) → t ≡ type_at T i → P (tree_named T i)
    no_part P a b t (inl e) is = subst P (sym (named_as Int (sym e ∙ is) ∙ int_tree)) a
    no_part P a b t (inr e) is = subst P (sym (named_as Truth (sym e ∙ is) ∙ ap or_ints (made T formed Truth))) b

    pub basic_part : (t : ValueType) → (t ≡ Int) ⊎ (t ≡ Truth) → t ≡ type_at T i → part_type (tree_named T i) j ≡ ints
    basic_part = no_part (λ t. part_type t j ≡ ints) refl refl

    pub basic_before : (t : ValueType) → (t ≡ Int) ⊎ (t ≡ Truth) → t ≡ type_at T i → 0 ≡ part_offset (tree_named T i) j
    basic_before = no_part (λ t. 0 ≡ part_offset t j) refl refl

    -- nor have pointers and slices
    leads_on : (P : TypeTree → Type 0) → ((n : ℕ) → P (pointer_to n)) → ((n : ℕ) → P (slice_of n)) → (t : ValueType) → ((e : TypeId) × (t ≡ Pointer e)) ⊎ ((e : TypeId) × (t ≡ Slice e)) → t ≡ type_at T i → P (tree_named T i)
    leads_on P a b t (inl p) is = subst P (sym (named_as (Pointer p.0) (sym p.1 ∙ is) ∙ ap or_ints (made T formed (Pointer p.0)))) (a p.0.0)
    leads_on P a b t (inr p) is = subst P (sym (named_as (Slice p.0) (sym p.1 ∙ is) ∙ ap or_ints (made T formed (Slice p.0)))) (b p.0.0)

    pub leading_part : (t : ValueType) → ((e : TypeId) × (t ≡ Pointer e)) ⊎ ((e : TypeId) × (t ≡ Slice e)) → t ≡ type_at T i → part_type (tree_named T i) j ≡ ints
    leading_part = leads_on (λ t. part_type t j ≡ ints) (λ n. refl) (λ n. refl)

    pub leading_before : (t : ValueType) → ((e : TypeId) × (t ≡ Pointer e)) ⊎ ((e : TypeId) × (t ≡ Slice e)) → t ≡ type_at T i → 0 ≡ part_offset (tree_named T i) j
    leading_before = leads_on (λ t. 0 ≡ part_offset t j) (λ n. refl) (λ n. refl)

    -- nor have structs that aren't told
    pub untold_part : (s : StructId) → Struct s ≡ type_at T i → None ≡ fields_of T s.0 → part_type (tree_named T i) j ≡ ints
    untold_part s e none = ap (λ t. part_type t j) (named_as (Struct s) e ∙ ap or_ints (untold_tree T s (sym none)))

    pub field_part : (s : StructId) (fs : List TypeId) (o : Option (Bor TypeId)) → Struct s ≡ type_at T i → Some fs ≡ fields_of T s.0 → is_some o ≡ nat_lt j (length fs) → IfSome o (λ x. x.now ≡ get_or fs j x.now)
        → IsPart T i j (option_copied o)
    field_part s fs None e told there at =
        let x = struct_parts T formed s fs (sym told) in
        ap (λ t. part_type t j) (named_as (Struct s) e ∙ ap or_ints x.2) ∙ behind_fields T fs x.0 j x.1 (ltb-false j (length fs) (sym there))
    field_part s fs (Some f) e told there at =
        let x = struct_parts T formed s fs (sym told) in
        ap (λ f. tree_named T f.0) at ∙ nth_field T fs x.0 j f.now x.1 (ltb-true j (length fs) (sym there)) ∙ sym (ap (λ t. part_type t j) (named_as (Struct s) e ∙ ap or_ints x.2))

    pub field_before : (s : StructId) → Struct s ≡ type_at T i → offset_in (tree_of T (Struct s)) j ≡ part_offset (tree_named T i) j
    field_before s e = by (tree_of T (Struct s)) ∙ sym (ap (λ t. part_offset t j) (named_as (Struct s) e))
      where
        by : (o : Option TypeTree) → offset_in o j ≡ part_offset (or_ints o) j
        by None = refl
        by (Some x) = refl

    array_named : (n : ℕ) (e : TypeId) → Array n e ≡ type_at T i → tree_named T i ≡ or_ints (option_map (array_of n) (tree_at T e.0))
    array_named n e is = named_as (Array n e) is ∙ ap or_ints (made T formed (Array n e))

    pub element_part : (n k : ℕ) (e : TypeId) → Array n e ≡ type_at T i → k ≡ j → IsPart T i j (then_some (nat_lt k n) e)
    element_part n k e is same = subst (λ k. IsPart T i j (then_some (nat_lt k n) e)) (sym same) (by (nat_lt j n) refl)
      where
        by : (b : Bool) → nat_lt j n ≡ b → IsPart T i j (then_some b e)
        by true l = named T e.0 ∙ element_type n (tree_at T e.0) j (ltb-true j n l) ∙ sym (ap (λ t. part_type t j) (array_named n e is))
        by false l = ap (λ t. part_type t j) (array_named n e is) ∙ behind_elements n (tree_at T e.0) j (ltb-false j n l)

    pub element_before : (n : ℕ) (e : TypeId) (k w : ℕ) → Array n e ≡ type_at T i → k ≡ min j n → w ≡ unwrap_or (words_at T e.0) 0 → k * w ≡ part_offset (tree_named T i) j
    element_before n e k w is least words =
        ap (λ w. k * w) words ∙ element_offset n (tree_at T e.0) j k least ∙ sym (ap (λ t. part_offset t j) (array_named n e is))
