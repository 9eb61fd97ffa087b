-- A part that the rules give is one of its whole's tree, with the tree of the part's type.
use Rattle.std.proofs.Common.{◌≡◌, ◌<◌, ℕ, zero, suc, Bool, true, false, cond, nat_lt, List, [], ◌∷◌, length, map, get_or, Option, Some, None, slice_get, refl, sym, ap, ◌∙◌, subst, arith}
use Rattle.std.specs.Prelude.{option_and_then, is_some}
use Rattle.std.specs.Option.{option_map, unwrap_or}
use Rattle.std.proofs.lemmas.Bool.{ltb-true}
use Rattle.base.specs.declared.ids.TypeId.{TypeId}
use Rattle.base.specs.declared.ids.StructId.{StructId}
use Rattle.base.specs.declared.value_type.ValueType.{ValueType}
use Rattle.base.specs.declared.value_type.ValueType.TheVariants.{Int, Bool as Truth, Struct, Array, Pointer, Slice}
use Rattle.typed_syntax.specs.Types.{TypeTree, PartTypes, ints, array_of, width, part_count, part_type as tree_part, types_in, nth_type, repeated}
use Rattle.type_faults.proofs.Options.{and_then_some, map_some, none_some, same_some}
use Rattle.type_faults.specs.Given.{allowed}
use Rattle.typed.specs.Tables.{Table, type_at, fields_of, number_of}
use Rattle.typed.specs.Trees.{tree_of, tree_named, parts_by}
use Rattle.typed.specs.Formed.{IsFormed, tree_at}
use Rattle.typed.proofs.Numbers.{number_holds}
use Rattle.typed.proofs.Nested.{made}
use Rattle.typed.proofs.Entered.{more_is}
use Rattle.typed.proofs.Offsets.{struct_parts}
use Rattle.names.specs.declared.fields.Part.{Part}
use Rattle.names.specs.Scope.{Scope, type_number, type_tree}
use Rattle.names.specs.Types.{is_known}
use Rattle.names.specs.Fields.{field_type, part_type, typed_part, known_number, part_of, field_number, named_field}
use Rattle.names.proofs.Trees.{tree_is, int_tree, tree_there, tree_held, named_tree}

allowed_some : {A : Type 0} (b : Bool) (o : Option A) (x : A) → allowed b o ≡ Some x → (b ≡ true) × (o ≡ Some x)
allowed_some true o x is = (refl, is)
allowed_some false o x is = absurd (none_some is)

nth_repeated : (n : ℕ) (t : TypeTree) (i : ℕ) → i < n → nth_type (repeated n t) i ≡ t
nth_repeated zero t i l = absurd (omega arith)
nth_repeated (suc n) t zero l = refl
nth_repeated (suc n) t (suc i) l = nth_repeated n t i (omega arith)

types_repeated : (n : ℕ) (t : TypeTree) → types_in (repeated n t) ≡ n
types_repeated zero t = refl
types_repeated (suc n) t = ap suc (types_repeated n t)

parts_count : (T : Table) (es : List TypeId) (xs : PartTypes) → parts_by T (tree_of T) es ≡ Some xs → types_in xs ≡ length es
parts_count T [] xs p = ap types_in (sym (same_some p))
parts_count T (e ∷ es) xs p =
    let m = more_is (tree_at T e.0) (parts_by T (tree_of T) es) xs p in
    ap types_in (sym m.4) ∙ ap suc (parts_count T es m.1 m.3)

nth_field : (T : Table) (es : List TypeId) (xs : PartTypes) (j : ℕ) (d : TypeId) → parts_by T (tree_of T) es ≡ Some xs → j < length es → tree_named T (get_or es j d).0 ≡ nth_type xs j
nth_field T [] xs j d p l = absurd (omega arith)
nth_field T (e ∷ es) xs zero d p l =
    let m = more_is (tree_at T e.0) (parts_by T (tree_of T) es) xs p in
    named_tree T T.types e.0 ∙ ap (λ o. unwrap_or o ints) m.2 ∙ ap (λ x. nth_type x 0) m.4
nth_field T (e ∷ es) xs (suc j) d p l =
    let m = more_is (tree_at T e.0) (parts_by T (tree_of T) es) xs p in
    nth_field T es m.1 j d m.3 (omega arith) ∙ ap (λ x. nth_type x (suc j)) m.4

at_get : (ts : List ValueType) (i : ℕ) (o : Option ValueType) → slice_get ts i ≡ o → get_or ts i Int ≡ unwrap_or o Int
at_get [] i None is = refl
at_get [] i (Some t) is = cc is
at_get (t ∷ ts) zero None is = cc is
at_get (t ∷ ts) zero (Some u) is = same_some is
at_get (t ∷ ts) (suc i) o is = at_get ts i o is

trees_behind : (f : ValueType → TypeTree) (ts : List ValueType) (i : ℕ) → slice_get ts i ≡ None → get_or (map f ts) i ints ≡ ints
trees_behind f [] i is = refl
trees_behind f (t ∷ ts) zero is = cc is
trees_behind f (t ∷ ts) (suc i) is = trees_behind f ts i is

-- the tree of the type that has a number
pub tree_numbered : (T : Table) → IsFormed T → (i : ℕ) → type_tree T (type_at T i) ≡ tree_named T i
tree_numbered T formed i = by (slice_get T.types i) refl
  where
    by : (o : Option ValueType) → slice_get T.types i ≡ o → type_tree T (type_at T i) ≡ tree_named T i
    by None is = ap (type_tree T) (at_get T.types i None is) ∙ int_tree T formed ∙ sym (trees_behind (λ t. unwrap_or (tree_of T t) ints) T.types i is)
    by (Some t) is = ap (type_tree T) (at_get T.types i (Some t) is) ∙ tree_is T formed t i is ∙ sym (tree_there T i t is)

get_there : (es : List TypeId) (n : ℕ) (e d : TypeId) → slice_get es n ≡ Some e → (get_or es n d ≡ e) × (n < length es)
get_there [] n e d is = cc is
get_there (x ∷ es) zero e d is = (same_some is, omega arith)
get_there (x ∷ es) (suc n) e d is = let r = get_there es n e d is in (r.0, omega (arith, r.1))

pub record IsPart (T : Table) (t : ValueType) (f : Part) : Type 0 where
  pub owner : type_number T t ≡ f.owner.0
  pub within : f.number < part_count (tree_named T f.owner.0)
  pub tree : tree_part (tree_named T f.owner.0) f.number ≡ type_tree T f.value_type

-- a type with words has a number, and a tree there
pub record HasTree (T : Table) (t : ValueType) (j : ℕ) : Type 0 where
  pub number : number_of T t ≡ Some j
  pub tree : TypeTree
  pub is : tree_of T t ≡ Some tree
  pub there : tree_named T j ≡ tree

pub has_tree : (T : Table) (t : ValueType) (j : ℕ) → known_number T t ≡ Some j → HasTree T t j
has_tree T t j is = let a = allowed_some (is_known T t) (number_of T t) j is in by (tree_of T t) refl a.1 a.0
  where
    by : (o : Option TypeTree) → tree_of T t ≡ o → number_of T t ≡ Some j → is_known T t ≡ true → HasTree T t j
    by None e n known =
        absurd (let f : is_known T t ≡ false = ap (λ k. is_some (option_and_then (λ i. option_map width (tree_at T i)) k)) n ∙ ap (λ k. is_some (option_map width k)) (tree_held T t j (number_holds T t j n) ∙ e) in cc (f, known))
    by (Some x) e n known = record { number = n; tree = x; is = e; there = tree_there T j t (number_holds T t j n) ∙ ap (λ k. unwrap_or k ints) e }

module _ (T : Table) (formed : IsFormed T) where
  field_is : (k : StructId) (n j : ℕ) (t : ValueType) → HasTree T (Struct k) j → field_type T k.0 n ≡ Some t → IsPart T (Struct k) (typed_part j n t)
  field_is k n j t h is =
      let m = map_some (λ e. type_at T e.0) (option_and_then (λ fields. slice_get fields n) (fields_of T k.0)) t is in
      let q = and_then_some (λ fields. slice_get fields n) (fields_of T k.0) m.0 m.1 in
      let x = struct_parts T formed k q.0 q.1 in
      let g = get_there q.0 n m.0 m.0 q.2 in
      let named : tree_named T j ≡ unwrap_or (tree_of T (Struct k)) ints = tree_there T j (Struct k) (number_holds T (Struct k) j h.number) in
      let count : part_count (tree_named T j) ≡ length q.0 = ap part_count (named ∙ ap (λ o. unwrap_or o ints) x.2) ∙ parts_count T q.0 x.0 x.1 in
      record {
        owner = ap (λ o. unwrap_or o 0) h.number;
        within = omega (arith, count, g.1);
        tree = ap (λ y. tree_part y n) (named ∙ ap (λ o. unwrap_or o ints) x.2) ∙ sym (nth_field T q.0 x.0 n m.0 x.1 g.1) ∙ ap (λ d. tree_named T d.0) g.0 ∙ sym (tree_numbered T formed m.0.0) ∙ ap (type_tree T) m.2;
      }

  element_is : (m : ℕ) (e : TypeId) (n j : ℕ) → HasTree T (Array m e) j → n < m → IsPart T (Array m e) (typed_part j n (type_at T e.0))
  element_is m e n j h l =
      let x = map_some (array_of m) (tree_at T e.0) h.tree (sym (made T formed (Array m e)) ∙ h.is) in
      let named : tree_named T j ≡ array_of m x.0 = h.there ∙ sym x.2 in
      record {
        owner = ap (λ o. unwrap_or o 0) h.number;
        within = omega (arith, l, ap part_count named ∙ types_repeated m x.0);
        tree = ap (λ y. tree_part y n) named ∙ nth_repeated m x.0 n l ∙ sym (named_tree T T.types e.0 ∙ ap (λ o. unwrap_or o ints) x.1) ∙ sym (tree_numbered T formed e.0);
      }

  part_typed : (t : ValueType) (n j : ℕ) (u : ValueType) → HasTree T t j → part_type T t n ≡ Some u → IsPart T t (typed_part j n u)
  part_typed Int n j u h is = absurd (none_some is)
  part_typed Truth n j u h is = absurd (none_some is)
  part_typed (Pointer e) n j u h is = absurd (none_some is)
  part_typed (Slice e) n j u h is = absurd (none_some is)
  part_typed (Struct k) n j u h is = field_is k n j u h is
  part_typed (Array m e) n j u h is = by (nat_lt n m) refl is
    where
      by : (b : Bool) → nat_lt n m ≡ b → cond b (Some (type_at T e.0)) None ≡ Some u → IsPart T (Array m e) (typed_part j n u)
      by true less is1 = subst (λ v. IsPart T (Array m e) (typed_part j n v)) (same_some is1) (element_is m e n j h (ltb-true n m less))
      by false less is1 = absurd (none_some is1)

  -- the part that has a number
  pub part_is : (t : ValueType) (n : ℕ) (f : Part) → part_of T t n ≡ Some f → IsPart T t f × (f.number ≡ n)
  part_is t n f is =
      let q = and_then_some (λ owner. option_map (typed_part owner n) (part_type T t n)) (known_number T t) f is in
      let m = map_some (typed_part q.0 n) (part_type T t n) f q.2 in
      (subst (IsPart T t) m.2 (part_typed t n q.0 m.0 (has_tree T t q.0 q.1) m.1), sym (ap (λ y. y.number) m.2))

-- the field that has a name
pub named_is : (s : Scope) → IsFormed s.types → (t : ValueType) (name : List ℕ) (f : Part) → named_field s t name ≡ Some f → IsPart s.types t f
named_is s formed Int name f is = absurd (none_some is)
named_is s formed Truth name f is = absurd (none_some is)
named_is s formed (Array n e) name f is = absurd (none_some is)
named_is s formed (Pointer e) name f is = absurd (none_some is)
named_is s formed (Slice e) name f is = absurd (none_some is)
named_is s formed (Struct k) name f is =
    let q = and_then_some (part_of s.types (Struct k)) (field_number s k.0 name) f is in
    (part_is s.types formed (Struct k) q.0 f q.2).0
