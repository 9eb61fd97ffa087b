-- A table with one more struct told.
use Rattle.std.proofs.Common.{◌≡◌, ℕ, zero, suc, ◌+◌, ◌*◌, ◌<◌, ◌≤◌, ◌==◌, Bool, true, false, List, [], ◌∷◌, length, get_or, Option, None, Some, slice_get, slice_set, IsSome, All, refl, sym, ap, ap₂, subst, ◌∙◌, arith, eqb-true}
use Rattle.std.specs.Option.{unwrap_or, option_map, option_and_then}
use Rattle.std.proofs.lemmas.Bool.{eqb-false}
use Rattle.std.proofs.lemmas.Option.{slice_get_within, slice_get-get_or, get_or_from_slice_get}
use Rattle.std.proofs.lemmas.List.{get_or-set_same, get_or-set_other}
use Rattle.std.proofs.lemmas.List.Sums.{sum_by-cons}
use Rattle.std.proofs.Math.Nat.{mul-le-mul_left, mul-le-mul_right}
use Rattle.typed_syntax.specs.Types.{TypeTree, PartTypes, struct_of, no_types, more_types, width, widths}
use Rattle.base.specs.declared.ids.TypeId.{TypeId}
use Rattle.base.specs.declared.ids.StructId.{StructId}
use Rattle.base.specs.declared.value_type.ValueType.{ValueType}
use Rattle.base.specs.declared.value_type.ValueType.TheVariants.{Int, Bool as Truth, Struct, Array, Pointer, Slice}
use Rattle.typed.specs.Tables.{Table, Holds, fields_of, with_fields, told}
use Rattle.typed.specs.Words.{IsInLimits, is_over}
use Rattle.typed.specs.Trees.{part_by, more_by, parts_by, tree_within, tree_of, words_of, depth_of}
use Rattle.typed.specs.Formed.{IsFormed, TreesAreMade, KeepsTrees, HasWords, tree_at, words_at, sum_of, is_too_large}
use Rattle.typed.proofs.Limits.{not_over}
use Rattle.typed.proofs.Growing.{Grows, parts_grow, within_grows, keeps}
use Rattle.typed.proofs.Nested.{IsDeep, base_of, depth_is, part_same, behind_placed, fixed, made_by, told_tree_by}
use Rattle.typed.proofs.Counted.{array_words_by, untold_words_by}
use Rattle.typed.proofs.Entered.{more_is, words_there}

one_more_told : (structs : List (Option (List TypeId))) (s : ℕ) (fields : List TypeId) → slice_get structs s ≡ Some None → told (slice_set structs s (Some fields)) ≡ suc (told structs)
one_more_told [] s fields p = absurd cc p
one_more_told (None ∷ structs) zero fields p = refl
one_more_told (Some f ∷ structs) zero fields p = absurd cc p
one_more_told (None ∷ structs) (suc s) fields p = one_more_told structs s fields p
one_more_told (Some f ∷ structs) (suc s) fields p = ap suc (one_more_told structs s fields p)

pub some_is : {A B : Type 0} (f : A → B) (o : Option A) → IsSome (option_map f o) → (x : A) × (o ≡ Some x)
some_is f None p = absurd cc p
some_is f (Some x) p = (x, refl)

-- fields that have words have trees, and make one together
pub some_parts : (T : Table) (es : List TypeId) → All (HasWords T) es → (xs : PartTypes) × (parts_by T (tree_of T) es ≡ Some xs)
some_parts T [] have = (no_types, refl)
some_parts T (e ∷ es) have =
    let x = some_is width (tree_at T e.0) (have 0 e (omega arith)) in
    let xs = some_parts T es (λ k d l. have (suc k) d (omega arith)) in
    (more_types x.0 xs.0, ap₂ more_by x.1 xs.1)

parts_same : (T : Table) (f h : ValueType → Option TypeTree) (es : List TypeId) → ((i : ℕ) → part_by T f i ≡ part_by T h i) → parts_by T f es ≡ parts_by T h es
parts_same T f h [] same = refl
parts_same T f h (e ∷ es) same = ap₂ more_by (same e.0) (parts_same T f h es same)

-- the words of fields, one by one and together
pub sum_is : (T : Table) (es : List TypeId) (xs : PartTypes) → parts_by T (tree_of T) es ≡ Some xs → widths xs ≡ sum_of T es
sum_is T [] xs p = let e : xs ≡ no_types = cc in ap widths e
sum_is T (e ∷ es) xs p =
    let m = more_is (tree_at T e.0) (parts_by T (tree_of T) es) xs p in
    ap widths (sym m.4) ∙ ap₂ (λ a b. a + b) (sym (ap (λ o. unwrap_or (option_map width o) 0) m.2)) (sum_is T es m.1 m.3)
    ∙ sym (sum_by-cons (λ e. unwrap_or (words_at T e.0) 0) e es)

-- a struct of the table that's not told
abbrev pub IsUntold : Table → ℕ → Type 0
IsUntold T s = slice_get T.structs s ≡ Some None

module _ (T : Table) (nests : IsDeep T) (s : ℕ) (untold : IsUntold T s) (fields : List TypeId) (have : All (HasWords T) fields) where
  abbrev after : Table
  after = with_fields T s fields

  told_none : fields_of T s ≡ None
  told_none = get_or_from_slice_get T.structs s None None untold

  pub told_now : fields_of after s ≡ Some fields
  told_now = get_or-set_same T.structs s (Some fields) None (slice_get_within T.structs s None untold)

  pub others_stay : (r : ℕ) → (r == s) ≡ false → fields_of after r ≡ fields_of T r
  others_stay r ne = get_or-set_other T.structs s r (Some fields) None (eqb-false r s ne)

  pub telling_grows : Grows T after
  telling_grows = record { types = λ i t p. p; fields = λ r fs p. by r fs p (r == s) refl }
    where
      by : (r : ℕ) (fs : List TypeId) → fields_of T r ≡ Some fs → (b : Bool) → (r == s) ≡ b → fields_of after r ≡ Some fs
      by r fs p true e = let same : r ≡ s = eqb-true r s e in absurd cc (sym p ∙ ap (fields_of T) same ∙ told_none)
      by r fs p false e = others_stay r e ∙ p

  base_is : base_of after ≡ depth_of T
  base_is = ap (λ n. n * suc (length T.types)) (one_more_told T.structs s fields untold)

  pub telling_deeper : depth_of T ≤ depth_of after
  telling_deeper = let e = one_more_told T.structs s fields untold in mul-le-mul_right (suc (length T.types)) (let l : suc (told T.structs) ≤ suc (told after.structs) = omega arith in l)

  pub telling_keeps : KeepsTrees T after
  telling_keeps = keeps T after telling_grows telling_deeper

  -- the types of the table have their trees one step below its depth
  abbrev least : ℕ
  least = base_of T + length T.types

  held_least : (i : ℕ) (u : ValueType) → Holds T i u → tree_within T least u ≡ tree_of T u
  unfolding tree_of
  held_least i u h = by least refl (slice_get_within T.types i u h)
    where
      by : (n : ℕ) → base_of T + length T.types ≡ n → i < length T.types → tree_within T n u ≡ tree_within T (depth_of T) u
      by zero e l = absurd (omega arith)
      by (suc m) e l =
          fixed T nests i m least u (behind_placed T i i u (nests.placed i u h) (omega arith)) (omega arith) (omega arith)
          ∙ ap (λ k. tree_within T k u) (sym (depth_is T))

  parts : PartTypes
  parts = (some_parts T fields have).0

  parts_now : parts_by after (tree_of after) fields ≡ Some parts
  unfolding parts
  parts_now = parts_grow T after telling_grows (tree_of T) (tree_of after) telling_keeps fields parts (some_parts T fields have).1

  parts_least : parts_by after (tree_within after least) fields ≡ Some parts
  unfolding parts
  parts_least =
      parts_grow T after telling_grows (tree_within T least) (tree_within after least) (within_grows T after telling_grows least least (omega arith)) fields parts
      (parts_same T (tree_within T least) (tree_of T) fields (λ i. part_same T (tree_within T least) (tree_of T) i (held_least i)) ∙ (some_parts T fields have).1)

  told_within : (r : StructId) → r.0 ≡ s → tree_within after (base_of after) (Struct r) ≡ Some (struct_of parts)
  told_within r e =
      ap (λ d. tree_within after d (Struct r)) (base_is ∙ depth_is T)
      ∙ ap (option_and_then (λ fs. option_map struct_of (parts_by after (tree_within after least) fs))) (ap (fields_of after) e ∙ told_now)
      ∙ ap (option_map struct_of) parts_least

  nested_now : (r : StructId) (fs : List TypeId) → fields_of after r.0 ≡ Some fs → (x : TypeTree) × (tree_within after (base_of after) (Struct r) ≡ Some x)
  nested_now r fs p = by (r.0 == s) refl
    where
      by : (b : Bool) → (r.0 == s) ≡ b → (x : TypeTree) × (tree_within after (base_of after) (Struct r) ≡ Some x)
      by true e = (struct_of parts, told_within r (eqb-true r.0 s e))
      by false e =
          let x = nests.nested r fs (sym (others_stay r.0 e) ∙ p) in
          let d = base_is in
          let k = depth_is T in
          (x.0, within_grows T after telling_grows (base_of T) (base_of after) (omega arith) (Struct r) x.0 x.1)

  pub deep_now : IsDeep after
  deep_now = record { placed = nests.placed; nested = nested_now }

  pub made_now : TreesAreMade after
  made_now = made_by after deep_now

  -- the struct has the words of its fields, and the others have those that they had
  pub told_words : (r : StructId) → r.0 ≡ s → words_of after (Struct r) ≡ Some (sum_of T fields)
  unfolding parts
  told_words r e =
      ap (option_map width) (made_now (Struct r) ∙ ap (option_and_then (λ fs. option_map struct_of (parts_by after (tree_of after) fs))) (ap (fields_of after) e ∙ told_now) ∙ ap (option_map struct_of) parts_now)
      ∙ ap (λ w. Some w) (sum_is T fields parts (some_parts T fields have).1)

  pub words_stay : (u : ValueType) (w : ℕ) → words_of T u ≡ Some w → words_of after u ≡ Some w
  words_stay u w p = by (tree_of T u) refl p
    where
      by : (o : Option TypeTree) → tree_of T u ≡ o → option_map width o ≡ Some w → words_of after u ≡ Some w
      by None e q = absurd cc q
      by (Some x) e q = ap (option_map width) (telling_keeps u x e) ∙ q

  pub other_words : (r : StructId) → (r.0 == s) ≡ false → words_of after (Struct r) ≡ words_of T (Struct r)
  other_words r ne = by (fields_of T r.0) refl
    where
      by : (o : Option (List TypeId)) → fields_of T r.0 ≡ o → words_of after (Struct r) ≡ words_of T (Struct r)
      by None e = untold_words_by after made_now r (others_stay r.0 ne ∙ e) ∙ sym (untold_words_by T (made_by T nests) r e)
      by (Some fs) e = let x = told_tree_by T nests r fs e in ap (option_map width) (telling_keeps (Struct r) x.0 x.1 ∙ sym x.1)

  module _ (formed : IsFormed T) (limits : IsInLimits (sum_of T fields)) where
    structs_now : (r : StructId) (w : ℕ) → words_of after (Struct r) ≡ Some w → IsInLimits w
    structs_now r w p = by (r.0 == s) refl
      where
        by : (b : Bool) → (r.0 == s) ≡ b → IsInLimits w
        by true e = subst IsInLimits (let q : sum_of T fields ≡ w = cc (sym (told_words r (eqb-true r.0 s e)) ∙ p) in q) limits
        by false e = formed.structs r w (sym (other_words r e) ∙ p)

    positive_product : (n : ℕ) (o : Option ℕ) (w : ℕ) → 0 < n → ((v : ℕ) → o ≡ Some v → 0 < v) → option_map (λ v. n * v) o ≡ Some w → 0 < w
    positive_product n None w l k p = absurd cc p
    positive_product n (Some v) w l k p =
        let e : n * v ≡ w = cc in
        let m : n * 1 ≤ n * v = mul-le-mul_left n (let q : 1 ≤ v = let g = k v refl in omega arith in q) in
        omega arith

    positive : (m i : ℕ) (u : ValueType) (w : ℕ) → i < m → Holds T i u → words_of after u ≡ Some w → 0 < w
    positive zero i u w l h p = absurd (omega arith)
    positive (suc m) i Int w l h p = let e : 1 ≡ w = cc (sym (ap (option_map width) (made_now Int)) ∙ p) in omega arith
    positive (suc m) i Truth w l h p = let e : 1 ≡ w = cc (sym (ap (option_map width) (made_now Truth)) ∙ p) in omega arith
    positive (suc m) i (Struct r) w l h p = (structs_now r w p).0
    positive (suc m) i (Pointer a) w l h p = let e : 1 ≡ w = cc (sym (ap (option_map width) (made_now (Pointer a))) ∙ p) in omega arith
    positive (suc m) i (Slice a) w l h p = let e : 3 ≡ w = cc (sym (ap (option_map width) (made_now (Slice a))) ∙ p) in omega arith
    positive (suc m) i (Array n a) w l h p =
        let q = formed.placed i (Array n a) h in
        let b = slice_get_within T.types i (Array n a) h in
        let below : a.0 < length T.types = let k = q.0 in omega arith in
        let e : Holds T a.0 (get_or T.types a.0 Int) = slice_get-get_or T.types a.0 Int below in
        positive_product n (words_at after a.0) w q.1.0
        (λ v f. positive m a.0 (get_or T.types a.0 Int) v (let k = q.0 in omega arith) e (sym (words_there after a.0 (get_or T.types a.0 Int) e) ∙ f))
        (sym (array_words_by after made_now n a) ∙ p)

    pub formed_told : ((i : ℕ) (u : ValueType) → Holds T i u → is_too_large after u ≡ false) → IsFormed after
    formed_told fine = record {
      int = formed.int;
      bool = formed.bool;
      once = formed.once;
      placed = formed.placed;
      nested = nested_now;
      numbers = formed.numbers;
      types = λ i u w h p. (positive (suc i) i u w (omega arith) h p, not_over w (ap is_over (sym p) ∙ fine i u h));
      structs = structs_now;
    }
