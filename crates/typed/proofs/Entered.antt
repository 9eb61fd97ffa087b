-- A table with one more type.
use Rattle.std.proofs.Common.{◌≡◌, inl, inr, ℕ, zero, suc, ◌*◌, ◌^◌, ◌<◌, ◌≤◌, if◌then◌else◌, List, [], ◌∷◌, ◌++◌, length, get_or, Option, None, Some, slice_get, is_some, refl, sym, ap, ap₂, subst, ◌∙◌, arith, length-append}
use Rattle.std.specs.Option.{unwrap_or, option_map, option_and_then}
use Rattle.std.proofs.lemmas.Option.{slice_get_within, slice_get-get_or}
use Rattle.std.proofs.Math.Nat.{mul-le-mul_left}
use Rattle.typed_syntax.specs.Types.{TypeTree, PartTypes, struct_of, array_of, more_types, width}
use Rattle.base.specs.declared.ids.TypeId.{TypeId}
use Rattle.base.specs.declared.ids.StructId.{StructId}
use Rattle.base.specs.declared.value_type.ValueType.{ValueType}
use Rattle.base.specs.declared.value_type.ValueType.TheVariants.{Int, Bool as Truth, Struct, Array, Pointer, Slice}
use Rattle.typed.specs.Tables.{Table, Holds, fields_of, number_of, with_type, told}
use Rattle.typed.specs.Words.{IsInLimits, refusal_by}
use Rattle.typed.specs.Trees.{part_by, more_by, parts_by, tree_by, tree_within, tree_of, words_of, depth_of}
use Rattle.typed.specs.Formed.{IsFormed, IsPlaced, Stands, words_at, refusal}
use Rattle.typed.proofs.Lists.{get_front, get_within, get_grown}
use Rattle.typed.proofs.Limits.{limits_by}
use Rattle.typed.proofs.Numbers.{lacks}
use Rattle.typed.proofs.Growing.{Grows, within_grows}
use Rattle.typed.proofs.Nested.{base_of, part_same, deep, deeper}
use Rattle.typed.proofs.Counted.{array_words}

abbrev pub entered : Table → ValueType → Table
entered T t = record T { types = T.types ++ t ∷ [] }

pub entered_new : (T : Table) (t : ValueType) → number_of T t ≡ None → with_type T t ≡ entered T t
entered_new T t none = ap (λ o. if is_some o then T else entered T t) none

pub entered_grows : (T : Table) (t : ValueType) → Grows T (entered T t)
entered_grows T t = record { types = λ i u h. get_front T.types t i u h; fields = λ s fields p. p }

longer : (T : Table) (t : ValueType) → length (entered T t).types ≡ suc (length T.types)
longer T t = omega (arith, length-append T.types (t ∷ []))

pub entered_deeper : (T : Table) (t : ValueType) → depth_of T ≤ depth_of (entered T t)
entered_deeper T t = mul-le-mul_left (suc (told T.structs)) (let e = longer T t in omega arith)

base_deeper : (T : Table) (t : ValueType) → base_of T ≤ base_of (entered T t)
base_deeper T t = mul-le-mul_left (told T.structs) (let e = longer T t in omega arith)

-- fields that have trees stand in the table
abbrev pub AllStand : Table → List TypeId → Type 0
AllStand T [] = Unit {0}
AllStand T (e ∷ es) = (e.0 < length T.types) × AllStand T es

part_stands : (T : Table) (f : ValueType → Option TypeTree) (i : ℕ) (x : TypeTree) → part_by T f i ≡ Some x → i < length T.types
part_stands T f i x p = by (slice_get T.types i) refl p
  where
    by : (o : Option ValueType) → slice_get T.types i ≡ o → option_and_then f o ≡ Some x → i < length T.types
    by None e q = absurd cc q
    by (Some t) e q = slice_get_within T.types i t e

pub more_is : (o : Option TypeTree) (os : Option PartTypes) (xs : PartTypes) → more_by o os ≡ Some xs → (y : TypeTree) × (ys : PartTypes) × (o ≡ Some y) × (os ≡ Some ys) × (more_types y ys ≡ xs)
more_is None os xs p = absurd cc p
more_is (Some y) None xs p = absurd cc p
more_is (Some y) (Some ys) xs p = (y, ys, refl, refl, cc p)

parts_stand : (T : Table) (f : ValueType → Option TypeTree) (es : List TypeId) (xs : PartTypes) → parts_by T f es ≡ Some xs → AllStand T es
parts_stand T f [] xs p = tt
parts_stand T f (e ∷ es) xs p =
    let m = more_is (part_by T f e.0) (parts_by T f es) xs p in
    (part_stands T f e.0 m.0 m.2, parts_stand T f es m.1 m.3)

fields_stand : (T : Table) (f : ValueType → Option TypeTree) (s : StructId) (fields : List TypeId) (x : TypeTree) → fields_of T s.0 ≡ Some fields → tree_by T f (Struct s) ≡ Some x → AllStand T fields
fields_stand T f s fields x told p =
    by (parts_by T f fields) refl (sym (ap (option_and_then (λ fs. option_map struct_of (parts_by T f fs))) told) ∙ p)
  where
    by : (o : Option PartTypes) → parts_by T f fields ≡ o → option_map struct_of o ≡ Some x → AllStand T fields
    by None e q = absurd cc q
    by (Some xs) e q = parts_stand T f fields xs e

module _ (T : Table) (formed : IsFormed T) (t : ValueType) where
  told_stand : (s : StructId) (fields : List TypeId) → fields_of T s.0 ≡ Some fields → AllStand T fields
  told_stand s fields p = by (base_of T) (formed.nested s fields p)
    where
      by : (d : ℕ) → (x : TypeTree) × (tree_within T d (Struct s) ≡ Some x) → AllStand T fields
      by zero x = absurd cc x.1
      by (suc d) x = fields_stand T (tree_within T d) s fields x.0 p x.1

  pub stands_placed : (i : ℕ) (u : ValueType) → Holds T i u → Stands T u
  stands_placed i Int h = tt
  stands_placed i Truth h = tt
  stands_placed i (Struct s) h = tt
  stands_placed i (Pointer e) h = let q = formed.placed i (Pointer e) h in let l = slice_get_within T.types i (Pointer e) h in omega arith
  stands_placed i (Slice e) h = let q = formed.placed i (Slice e) h in let l = slice_get_within T.types i (Slice e) h in omega arith
  stands_placed i (Array n e) h = let p = formed.placed i (Array n e) h in let q = p.0 in let l = slice_get_within T.types i (Array n e) h in omega arith

  -- parts of the table are the same in the longer one
  module _ (f h : ValueType → Option TypeTree) (same : (u : ValueType) → Stands T u → f u ≡ h u) where
    part_entered : (i : ℕ) → i < length T.types → part_by (entered T t) f i ≡ part_by T h i
    part_entered i l =
        ap (option_and_then f) (get_within T.types t i l) ∙ part_same T f h i (λ u held. same u (stands_placed i u held))

    parts_entered : (es : List TypeId) → AllStand T es → parts_by (entered T t) f es ≡ parts_by T h es
    parts_entered [] l = refl
    parts_entered (e ∷ es) l = ap₂ more_by (part_entered e.0 l.0) (parts_entered es l.1)

    struct_entered : (s : StructId) → tree_by (entered T t) f (Struct s) ≡ tree_by T h (Struct s)
    struct_entered s = by (fields_of T s.0) refl
      where
        by : (o : Option (List TypeId)) → fields_of T s.0 ≡ o → option_and_then (λ fs. option_map struct_of (parts_by (entered T t) f fs)) o ≡ option_and_then (λ fs. option_map struct_of (parts_by T h fs)) o
        by None e = refl
        by (Some fs) e = ap (option_map struct_of) (parts_entered fs (told_stand s fs e))

    tree_entered : (u : ValueType) → Stands T u → tree_by (entered T t) f u ≡ tree_by T h u
    tree_entered Int l = refl
    tree_entered Truth l = refl
    tree_entered (Struct s) l = struct_entered s
    tree_entered (Pointer e) l = refl
    tree_entered (Slice e) l = refl
    tree_entered (Array n e) l = ap (option_map (array_of n)) (part_entered e.0 l)

  within_entered : (k : ℕ) (u : ValueType) → Stands T u → tree_within (entered T t) k u ≡ tree_within T k u
  within_entered zero u l = refl
  within_entered (suc k) u l = tree_entered (tree_within (entered T t) k) (tree_within T k) (within_entered k) u l

  -- types of the table, and those that could enter, have the trees that they had
  pub stays : (u : ValueType) → Stands T u → tree_of (entered T t) u ≡ tree_of T u
  unfolding tree_of
  stays u l = within_entered (depth_of (entered T t)) u l ∙ deeper T (deep T formed) (depth_of (entered T t)) u (entered_deeper T t)

  pub words_stay : (u : ValueType) → Stands T u → words_of (entered T t) u ≡ words_of T u
  words_stay u l = ap (option_map width) (stays u l)

-- ---- a type that isn't refused

pub words_there : (T : Table) (i : ℕ) (u : ValueType) → Holds T i u → words_at T i ≡ words_of T u
words_there T i u h = ap (λ o. option_map width (option_and_then (tree_of T) o)) h

some_by : (o : Option ℕ) (w : ℕ) → o ≡ Some w → refusal_by (unwrap_or o 1) ≡ None → IsInLimits w
some_by o w p fine = limits_by w (ap (λ o. refusal_by (unwrap_or o 1)) (sym p) ∙ fine)

product_by : (n : ℕ) (o : Option ℕ) (w : ℕ) → option_map (λ v. n * v) o ≡ Some w → refusal_by (n * unwrap_or o 1) ≡ None → IsInLimits w
product_by n None w p fine = absurd cc p
product_by n (Some v) w p fine = let e : n * v ≡ w = cc in limits_by w (ap refusal_by (sym e) ∙ fine)

factor_in_limits : (n v : ℕ) → 0 < v → IsInLimits (n * v) → IsInLimits n
factor_in_limits zero v p l = let z : 0 < 0 * v = l.0 in absurd (omega arith)
factor_in_limits (suc n) v p l =
    let m : suc n * 1 ≤ suc n * v = mul-le-mul_left (suc n) (let q : 1 ≤ v = omega arith in q) in
    let k : suc n * v ≤ 65535 = l.1 in
    (omega arith, omega arith)

module _ (T : Table) (formed : IsFormed T) where
  pub one_at_least : (i : ℕ) → i < length T.types → 0 < unwrap_or (words_at T i) 1
  one_at_least i l =
      let u : ValueType = get_or T.types i Int in
      let h : Holds T i u = slice_get-get_or T.types i Int l in
      subst (λ o. 0 < unwrap_or o 1) (sym (words_there T i u h)) (by i u h (words_of T u) refl)
    where
      by : (i : ℕ) (u : ValueType) → Holds T i u → (o : Option ℕ) → words_of T u ≡ o → 0 < unwrap_or o 1
      by i u h None e = omega arith
      by i u h (Some w) e = (formed.types i u w h e).0

module _ (T : Table) (formed : IsFormed T) (t : ValueType) (l : Stands T t) (fine : refusal T t ≡ None) where
  pub placed_next : (u : ValueType) → t ≡ u → IsPlaced (length T.types) u
  placed_next Int e = tt
  placed_next Truth e = tt
  placed_next (Struct s) e = tt
  placed_next (Pointer a) e = subst (Stands T) e l
  placed_next (Slice a) e = subst (Stands T) e l
  placed_next (Array n a) e =
      let k : a.0 < length T.types = subst (Stands T) e l in
      let f : refusal T (Array n a) ≡ None = subst (λ u. refusal T u ≡ None) e fine in
      (k, factor_in_limits n (unwrap_or (words_at T a.0) 1) (one_at_least T formed a.0 k) (limits_by (n * unwrap_or (words_at T a.0) 1) f))

  pub words_fine : (u : ValueType) (w : ℕ) → t ≡ u → words_of T u ≡ Some w → IsInLimits w
  words_fine Int w e p = some_by (words_of T Int) w p (subst (λ u. refusal T u ≡ None) e fine)
  words_fine Truth w e p = some_by (words_of T Truth) w p (subst (λ u. refusal T u ≡ None) e fine)
  words_fine (Struct s) w e p = some_by (words_of T (Struct s)) w p (subst (λ u. refusal T u ≡ None) e fine)
  words_fine (Pointer a) w e p = some_by (words_of T (Pointer a)) w p (subst (λ u. refusal T u ≡ None) e fine)
  words_fine (Slice a) w e p = some_by (words_of T (Slice a)) w p (subst (λ u. refusal T u ≡ None) e fine)
  words_fine (Array n a) w e p = product_by n (words_at T a.0) w (sym (array_words T formed n a) ∙ p) (subst (λ u. refusal T u ≡ None) e fine)

  module _ (none : number_of T t ≡ None) (room : length T.types < 2 ^ 32) where
    entered_once : (i j : ℕ) (u : ValueType) → Holds (entered T t) i u → Holds (entered T t) j u → i ≡ j
    entered_once i j u hi hj =
        elim (get_grown T.types t i u hi) [
          | inl a ↦ elim (get_grown T.types t j u hj) [
            | inl b ↦ formed.once i j u a b
            | inr b ↦ absurd (lacks T t i none (a ∙ ap (λ v. Some v) (sym b.1)))
          ]
          | inr a ↦ elim (get_grown T.types t j u hj) [
            | inl b ↦ absurd (lacks T t j none (b ∙ ap (λ v. Some v) (sym a.1)))
            | inr b ↦ a.0 ∙ sym b.0
          ]
        ]

    entered_placed : (i : ℕ) (u : ValueType) → Holds (entered T t) i u → IsPlaced i u
    entered_placed i u h =
        elim (get_grown T.types t i u h) [
          | inl a ↦ formed.placed i u a
          | inr a ↦ subst (λ k. IsPlaced k u) (sym a.0) (placed_next u a.1)
        ]

    entered_words : (i : ℕ) (u : ValueType) (w : ℕ) → Holds (entered T t) i u → words_of (entered T t) u ≡ Some w → IsInLimits w
    entered_words i u w h p =
        elim (get_grown T.types t i u h) [
          | inl a ↦ formed.types i u w a (sym (words_stay T formed t u (stands_placed T formed t i u a)) ∙ p)
          | inr a ↦ words_fine u w a.1 (sym (words_stay T formed t u (subst (Stands T) a.1 l)) ∙ p)
        ]

    pub formed_entered : IsFormed (entered T t)
    formed_entered = record {
      int = get_front T.types t 0 Int formed.int;
      bool = get_front T.types t 1 Truth formed.bool;
      once = entered_once;
      placed = entered_placed;
      nested = λ s fields p. let x = formed.nested s fields p in (x.0, within_grows T (entered T t) (entered_grows T t) (base_of T) (base_of (entered T t)) (base_deeper T t) (Struct s) x.0 x.1);
      numbers = let e = longer T t in omega arith;
      types = entered_words;
      structs = λ s w p. formed.structs s w (sym (words_stay T formed t (Struct s) tt) ∙ p);
    }
