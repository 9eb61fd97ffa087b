-- The words of all types where one more struct is told.
use Rattle.std.proofs.Common.{inl, inr, ◌≡◌, ℕ, ◌+◌, ◌*◌, ◌<◌, ◌≤◌, ◌==◌, Bool, true, false, if◌then◌else◌, List, [], ◌∷◌, ◌++◌, length, map, take, get_or, slice_get, slice_set, Option, None, Some, All, refl, sym, ap, ap₂, subst, ◌∙◌, arith, eqb-true}
use Rattle.std.specs.List.{list_any}
use Rattle.std.specs.Option.{option_map, option_or}
use Rattle.std.proofs.lemmas.Bool.{le-ltb}
use Rattle.std.proofs.lemmas.List.{length-map}
use Rattle.std.proofs.lemmas.Option.{slice_get-get_or, slice_get_within}
use Rattle.typed_syntax.specs.Types.{width}
use Rattle.base.specs.declared.ids.TypeId.{TypeId}
use Rattle.typed.specs.declared.told.Told.{Told}
use Rattle.base.specs.declared.ids.StructId.{StructId}
use Rattle.base.specs.declared.value_type.ValueType.{ValueType}
use Rattle.base.specs.declared.value_type.ValueType.TheVariants.{Int, Bool as Truth, Struct, Array, Pointer, Slice}
use Rattle.typed.specs.Tables.{Table, Holds, fields_of, with_fields}
use Rattle.typed.specs.declared.fault.TableFault.TheVariants.{Empty, TooLarge}
use Rattle.typed.specs.Words.{IsInLimits, within_limit, refusal_by, is_over}
use Rattle.typed.specs.Trees.{words_of}
use Rattle.typed.specs.Formed.{IsFormed, KeepsTrees, HasWords, words_at, sum_of, is_too_large, struct_refusal}
use Rattle.typed.specs.Memory.{fields_in, table_of, IsCounted, struct_words, told_by}
use Rattle.typed.proofs.Lists.{get_map_take, map_take_more, none_take_more, none_at, any_at, get_set, map_set}
use Rattle.typed.proofs.Limits.{none_over, not_refused}
use Rattle.typed.proofs.Counted.{words_mapped, array_words_by, struct_kept}
use Rattle.typed.proofs.Nested.{deep}
use Rattle.typed.proofs.Telling.{IsUntold, made_now, told_words, other_words, formed_told, telling_keeps}

pub not_over_by : (o : Option ℕ) → ((w : ℕ) → o ≡ Some w → w ≤ 65535) → is_over o ≡ false
not_over_by None l = le-ltb 65535 0 (omega arith)
not_over_by (Some w) l = le-ltb 65535 w (l w refl)

module _ (types : List ValueType) (told : List (Option Told)) (words : List (Option ℕ)) (formed : IsFormed (table_of types told)) (counted : IsCounted (table_of types told) words told) where
  abbrev T : Table
  T = table_of types told

  pub structs_not_over : (s : ℕ) → is_over (struct_words told s) ≡ false
  structs_not_over s =
      let r : StructId = record { 0 = s } in
      ap is_over (struct_kept types told words formed counted r) ∙ not_over_by (words_of T (Struct r)) (λ w e. (formed.structs r w e).1)

  module _ (s : ℕ) (untold : IsUntold T s) (fields : List TypeId) (have : All (HasWords T) fields) (sum : ℕ) (summed : sum ≡ sum_of T fields) where
    abbrev U : Table
    U = with_fields T s fields

    told_is : (before : List (Option ℕ)) (t : ValueType) → ((n : ℕ) (e : TypeId) → t ≡ Array n e → get_or before e.0 None ≡ words_at U e.0) → told_by before told s sum t ≡ words_of U t
    told_is before Int h = sym (ap (option_map width) (made_now T (deep T formed) s untold fields have Int))
    told_is before Truth h = sym (ap (option_map width) (made_now T (deep T formed) s untold fields have Truth))
    told_is before (Struct r) h = by (r.0 == s) refl
      where
        by : (b : Bool) → (r.0 == s) ≡ b → (if b then Some sum else struct_words told r.0) ≡ words_of U (Struct r)
        by true e = ap (λ w. Some w) summed ∙ sym (told_words T (deep T formed) s untold fields have r (eqb-true r.0 s e))
        by false e = struct_kept types told words formed counted r ∙ sym (other_words T (deep T formed) s untold fields have r e)
    told_is before (Pointer e) h = sym (ap (option_map width) (made_now T (deep T formed) s untold fields have (Pointer e)))
    told_is before (Slice e) h = sym (ap (option_map width) (made_now T (deep T formed) s untold fields have (Slice e)))
    told_is before (Array n e) h = ap (option_map (λ w. n * w)) (h n e refl) ∙ sym (array_words_by U (made_now T (deep T formed) s untold fields have) n e)

    pub step_is : (before : List (Option ℕ)) (i : ℕ) (d : ValueType) → i < length types → before ≡ map (words_of U) (take i types) → told_by before told s sum (get_or types i d) ≡ words_of U (get_or types i d)
    step_is before i d l is = told_is before (get_or types i d) by
      where
        held : Holds T i (get_or types i d)
        held = slice_get-get_or types i d l

        by : (n : ℕ) (e : TypeId) → get_or types i d ≡ Array n e → get_or before e.0 None ≡ words_at U e.0
        by n e p =
            let b : e.0 < i = (formed.placed i (Array n e) (held ∙ ap (λ u. Some u) p)).0 in
            ap (λ ws. get_or ws e.0 None) is ∙ get_map_take (words_of U) types i e.0 None b ∙ words_mapped U e.0

    -- one more type
    pub more_words : (before : List (Option ℕ)) (i : ℕ) (d : ValueType) (w : Option ℕ) → i < length types → before ≡ map (words_of U) (take i types) → w ≡ told_by before told s sum (get_or types i d)
        → before ++ w ∷ [] ≡ map (words_of U) (take (i + 1) types)
    more_words before i d w l is e = ap₂ (λ ws v. ws ++ v ∷ []) is (e ∙ step_is before i d l is) ∙ sym (map_take_more (words_of U) types i d l)

    pub none_larger : (before : List (Option ℕ)) (i : ℕ) (d : ValueType) → i < length types → before ≡ map (words_of U) (take i types) → is_over (told_by before told s sum (get_or types i d)) ≡ false
        → list_any (is_too_large U) (take i types) ≡ false → list_any (is_too_large U) (take (i + 1) types) ≡ false
    none_larger before i d l is e none = none_take_more (is_too_large U) types i d l none (ap is_over (sym (step_is before i d l is)) ∙ e)

-- what holds where a struct has been told
pub record Telling (types : List ValueType) (told new : List (Option Told)) (kept : List (Option ℕ)) (s : ℕ) (fields : List TypeId) : Type 0 where
  pub formed : IsFormed (table_of types new)
  pub counted : IsCounted (table_of types new) kept new
  pub trees : KeepsTrees (table_of types told) (table_of types new)
  pub is : table_of types new ≡ with_fields (table_of types told) s fields

module _ (types : List ValueType) (told : List (Option Told)) (words kept : List (Option ℕ)) (formed : IsFormed (table_of types told)) (counted : IsCounted (table_of types told) words told)
    (s : ℕ) (untold : IsUntold (table_of types told) s) (t : Told) (have : All (HasWords (table_of types told)) t.fields.items) (summed : t.words ≡ sum_of (table_of types told) t.fields.items) where
  struct_after : (r : StructId) (x : Told) → slice_get (slice_set told s (Some t)) r.0 ≡ Some (Some x) → words_of (with_fields (table_of types told) s t.fields.items) (Struct r) ≡ Some x.words
  struct_after r x h =
      elim (get_set told s r.0 (Some t) (Some x) h) [
        | inl a ↦ told_words (table_of types told) (deep (table_of types told) formed) s untold t.fields.items have r a.0 ∙ ap (λ w. Some w) (sym summed) ∙ ap (λ o. option_map (λ y. y.words) o) a.1
        | inr a ↦ other_words (table_of types told) (deep (table_of types told) formed) s untold t.fields.items have r (differ (r.0 == s) refl a.0) ∙ counted.structs r x a.1
      ]
    where
      differ : (b : Bool) → (r.0 == s) ≡ b → (r.0 ≡ s → ⊥) → (r.0 == s) ≡ false
      differ true e ne = absurd (ne (eqb-true r.0 s e))
      differ false e ne = e

  pub telling : IsInLimits t.words → kept ≡ map (words_of (with_fields (table_of types told) s t.fields.items)) types → list_any (is_too_large (with_fields (table_of types told) s t.fields.items)) types ≡ false
      → Telling types told (slice_set told s (Some t)) kept s t.fields.items
  telling limits all none =
      let T = table_of types told in
      let U = with_fields T s t.fields.items in
      let is : table_of types (slice_set told s (Some t)) ≡ U = ap (λ ss. record { types = types; structs = ss }) (map_set fields_in told s (Some t)) in
      record {
        formed = subst IsFormed (sym is) (formed_told T (deep T formed) s untold t.fields.items have formed (subst IsInLimits summed limits) (λ i u h. none_at (is_too_large U) types i u none h));
        counted = subst (λ V. IsCounted V kept (slice_set told s (Some t))) (sym is) (record { types = all; structs = struct_after });
        trees = subst (KeepsTrees T) (sym is) (telling_keeps T (deep T formed) s untold t.fields.items have);
        is = is;
      }

-- ---- by what contracts see

-- a struct of the table that has no fields is untold
pub untold_by : (V : Table) (s : ℕ) → s < length V.structs → fields_of V s ≡ None → IsUntold V s
untold_by V s l none = slice_get-get_or V.structs s None l ∙ ap (λ o. Some o) none

-- and has a place among what is kept
pub untold_within : (types : List ValueType) (told : List (Option Told)) (V : Table) (s : ℕ) → table_of types told ≡ V → IsUntold V s → s < length told
untold_within types told V s v untold =
    let u : slice_get (map fields_in told) s ≡ Some None = subst (λ W. IsUntold W s) (sym v) untold in
    let l = slice_get_within (map fields_in told) s None u in
    let m = length-map told fields_in in
    omega arith

-- what was known of a prefix, one type later
abbrev pub Passed : Table → ℕ → List TypeId → List (Option ℕ) → ℕ → Type 0
Passed T s fields before i = (before ≡ map (words_of (with_fields T s fields)) (take i T.types)) × (list_any (is_too_large (with_fields T s fields)) (take i T.types) ≡ false)

module _ (types : List ValueType) (told : List (Option Told)) (words : List (Option ℕ)) (formed : IsFormed (table_of types told)) (counted : IsCounted (table_of types told) words told)
    (T : Table) (v : table_of types told ≡ T) (s : ℕ) (untold : IsUntold T s) (fields : List TypeId) (have : All (HasWords T) fields) (sum : ℕ) (summed : sum ≡ sum_of T fields) where
  untold_here : IsUntold (table_of types told) s
  untold_here = subst (λ V. IsUntold V s) (sym v) untold

  have_here : All (HasWords (table_of types told)) fields
  have_here = subst (λ V. All (HasWords V) fields) (sym v) have

  summed_here : sum ≡ sum_of (table_of types told) fields
  summed_here = subst (λ V. sum ≡ sum_of V fields) (sym v) summed

  pub passes : (before : List (Option ℕ)) (i : ℕ) (w : Option ℕ) → i < length types → Passed T s fields before i → w ≡ told_by before told s sum (get_or types i Int)
      → is_over (told_by before told s sum (get_or types i Int)) ≡ false → Passed T s fields (before ++ w ∷ []) (i + 1)
  passes before i w l passed is fine =
      let p : Passed (table_of types told) s fields before i = subst (λ V. Passed V s fields before i) (sym v) passed in
      subst (λ V. Passed V s fields (before ++ w ∷ []) (i + 1)) v (
        more_words types told words formed counted s untold_here fields have_here sum summed_here before i Int w l p.0 is,
        none_larger types told words formed counted s untold_here fields have_here sum summed_here before i Int l p.0 fine p.1,
      )

  pub stops : (before : List (Option ℕ)) (i : ℕ) → i < length types → Passed T s fields before i → is_over (told_by before told s sum (get_or types i Int)) ≡ true
      → list_any (is_too_large (with_fields T s fields)) T.types ≡ true
  stops before i l passed over =
      let p : Passed (table_of types told) s fields before i = subst (λ V. Passed V s fields before i) (sym v) passed in
      subst (λ V. list_any (is_too_large (with_fields V s fields)) V.types ≡ true) v
      (any_at (is_too_large (with_fields (table_of types told) s fields)) types i Int l
      (ap is_over (sym (step_is types told words formed counted s untold_here fields have_here sum summed_here before i Int l p.0)) ∙ over))

pub told_as : (types : List ValueType) (told : List (Option Told)) (words kept : List (Option ℕ)) → IsFormed (table_of types told) → IsCounted (table_of types told) words told → (V : Table) → table_of types told ≡ V
    → (s : ℕ) → IsUntold V s → (t : Told) → All (HasWords V) t.fields.items → t.words ≡ sum_of V t.fields.items → IsInLimits t.words
    → (kept ≡ map (words_of (with_fields V s t.fields.items)) V.types) × (list_any (is_too_large (with_fields V s t.fields.items)) V.types ≡ false) → Telling types told (slice_set told s (Some t)) kept s t.fields.items
told_as types told words kept formed counted V v s untold t have summed limits all =
    let a = subst (λ W. (kept ≡ map (words_of (with_fields W s t.fields.items)) W.types) × (list_any (is_too_large (with_fields W s t.fields.items)) W.types ≡ false)) (sym v) all in
    telling types told words kept formed counted s (subst (λ W. IsUntold W s) (sym v) untold) t (subst (λ W. All (HasWords W) t.fields.items) (sym v) have) (subst (λ W. t.words ≡ sum_of W t.fields.items) (sym v) summed) limits a.0 a.1

-- what is wrong with a struct
pub too_many : (T : Table) (s : ℕ) (fields : List TypeId) → within_limit (sum_of T fields) ≡ None → struct_refusal T s fields ≡ Some TooLarge
too_many T s fields p = ap (λ o. option_or o (if list_any (is_too_large (with_fields T s fields)) T.types then Some TooLarge else None)) (none_over (sum_of T fields) p)

pub none_at_all : (T : Table) (s : ℕ) (fields : List TypeId) → sum_of T fields ≡ 0 → struct_refusal T s fields ≡ Some Empty
none_at_all T s fields p = ap (λ w. option_or (refusal_by w) (if list_any (is_too_large (with_fields T s fields)) T.types then Some TooLarge else None)) p

pub by_others : (T : Table) (s : ℕ) (fields : List TypeId) (b : Bool) → IsInLimits (sum_of T fields) → list_any (is_too_large (with_fields T s fields)) T.types ≡ b
    → struct_refusal T s fields ≡ (if b then Some TooLarge else None)
by_others T s fields b l e =
    ap (λ o. option_or o (if list_any (is_too_large (with_fields T s fields)) T.types then Some TooLarge else None)) (not_refused (sum_of T fields) l) ∙ ap (λ c. if c then Some TooLarge else None) e
