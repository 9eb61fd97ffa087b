-- A struct that has no number is no part of a type of the table: where it is told, the words of all types stay.
use Rattle.std.proofs.Common.{◌≡◌, ℕ, zero, suc, ◌*◌, ◌<◌, ◌==◌, ◌||◌, Bool, true, false, List, [], ◌∷◌, length, map, get_or, slice_get, Option, None, Some, All, refl, sym, ap, ap₂, subst, ◌∙◌, arith, eqb-true}
use Rattle.std.specs.List.{list_any}
use Rattle.std.specs.Option.{option_map}
use Rattle.std.proofs.lemmas.Option.{slice_get_within, slice_get-get_or}
use Rattle.typed_syntax.specs.Types.{width}
use Rattle.base.specs.declared.ids.TypeId.{TypeId}
use Rattle.base.specs.declared.ids.StructId.{StructId}
use Rattle.base.specs.declared.value_type.ValueType.{ValueType}
use Rattle.base.specs.declared.value_type.ValueType.TheVariants.{Int, Bool as Truth, Struct, Array, Pointer, Slice}
use Rattle.typed.specs.declared.told.Told.{Told}
use Rattle.typed.specs.Tables.{Table, Holds, number_of, with_fields}
use Rattle.typed.specs.Words.{is_over}
use Rattle.typed.specs.Trees.{words_of}
use Rattle.typed.specs.Formed.{IsFormed, HasWords, is_too_large}
use Rattle.typed.specs.Memory.{table_of, IsCounted}
use Rattle.typed.proofs.Lists.{map_same}
use Rattle.typed.proofs.Nested.{deep, made}
use Rattle.typed.proofs.Numbers.{lacks}
use Rattle.typed.proofs.Counted.{array_words, array_words_by}
use Rattle.typed.proofs.Entered.{words_there}
use Rattle.typed.proofs.Telling.{IsUntold, made_now, other_words}
use Rattle.typed.proofs.Passing.{not_over_by}

nothing_passes : {X : Type 0} (p : X → Bool) (xs : List X) → ((i : ℕ) (x : X) → slice_get xs i ≡ Some x → p x ≡ false) → list_any p xs ≡ false
nothing_passes p [] none = refl
nothing_passes p (x ∷ xs) none = ap₂ (λ a b. a || b) (none 0 x refl) (nothing_passes p xs (λ i. none (suc i)))

module _ (T : Table) (formed : IsFormed T) (s : StructId) (untold : IsUntold T s.0) (fields : List TypeId) (have : All (HasWords T) fields) (none : number_of T (Struct s) ≡ None) where
  abbrev after : Table
  after = with_fields T s.0 fields

  is_another : (r : StructId) (i : ℕ) → Holds T i (Struct r) → (r.0 == s.0) ≡ false
  is_another r i h = by (r.0 == s.0) refl
    where
      by : (b : Bool) → (r.0 == s.0) ≡ b → (r.0 == s.0) ≡ false
      by true e = absurd (lacks T (Struct s) i none (h ∙ ap (λ n. Some (Struct (record { 0 = n }))) (eqb-true r.0 s.0 e)))
      by false e = e

  words_same : (m i : ℕ) (u : ValueType) → i < m → Holds T i u → words_of after u ≡ words_of T u
  words_same zero i u l h = absurd (omega arith)
  words_same (suc m) i Int l h = ap (option_map width) (made_now T (deep T formed) s.0 untold fields have Int) ∙ sym (ap (option_map width) (made T formed Int))
  words_same (suc m) i Truth l h = ap (option_map width) (made_now T (deep T formed) s.0 untold fields have Truth) ∙ sym (ap (option_map width) (made T formed Truth))
  words_same (suc m) i (Struct r) l h = other_words T (deep T formed) s.0 untold fields have r (is_another r i h)
  words_same (suc m) i (Pointer a) l h = ap (option_map width) (made_now T (deep T formed) s.0 untold fields have (Pointer a)) ∙ sym (ap (option_map width) (made T formed (Pointer a)))
  words_same (suc m) i (Slice a) l h = ap (option_map width) (made_now T (deep T formed) s.0 untold fields have (Slice a)) ∙ sym (ap (option_map width) (made T formed (Slice a)))
  words_same (suc m) i (Array n a) l h =
      let q = formed.placed i (Array n a) h in
      let b = slice_get_within T.types i (Array n a) h in
      let below : a.0 < length T.types = let k = q.0 in omega arith in
      let u = get_or T.types a.0 Int in
      let e : Holds T a.0 u = slice_get-get_or T.types a.0 Int below in
      let inner : words_of after u ≡ words_of T u = words_same m a.0 u (let k = q.0 in omega arith) e in
      array_words_by after (made_now T (deep T formed) s.0 untold fields have) n a
      ∙ ap (option_map (λ w. n * w)) (words_there after a.0 u e ∙ inner ∙ sym (words_there T a.0 u e)) ∙ sym (array_words T formed n a)

  stay : (i : ℕ) (u : ValueType) → Holds T i u → words_of after u ≡ words_of T u
  stay i u h = words_same (suc i) i u (omega arith) h

  pub words_stay_all : map (words_of T) T.types ≡ map (words_of after) T.types
  words_stay_all = map_same (words_of T) (words_of after) T.types (λ i u h. sym (stay i u h))

  pub none_too_large : list_any (is_too_large after) T.types ≡ false
  none_too_large = nothing_passes (is_too_large after) T.types (λ i u h. ap is_over (stay i u h) ∙ not_over_by (words_of T u) (λ w e. (formed.types i u w h e).1))

-- the words that are kept are those of all types where the struct is told, by what contracts see
pub kept_are : (types : List ValueType) (told : List (Option Told)) (words : List (Option ℕ)) → IsFormed (table_of types told) → IsCounted (table_of types told) words told → (V : Table) → table_of types told ≡ V
    → (s : StructId) → IsUntold V s.0 → (fields : List TypeId) → All (HasWords V) fields → number_of V (Struct s) ≡ None
    → (words ≡ map (words_of (with_fields V s.0 fields)) V.types) × (list_any (is_too_large (with_fields V s.0 fields)) V.types ≡ false)
kept_are types told words formed counted V v s untold fields have none =
    let T = table_of types told in
    let u : IsUntold T s.0 = subst (λ W. IsUntold W s.0) (sym v) untold in
    let h : All (HasWords T) fields = subst (λ W. All (HasWords W) fields) (sym v) have in
    let n : number_of T (Struct s) ≡ None = subst (λ W. number_of W (Struct s) ≡ None) (sym v) none in
    subst (λ W. (words ≡ map (words_of (with_fields W s.0 fields)) W.types) × (list_any (is_too_large (with_fields W s.0 fields)) W.types ≡ false)) v
    (counted.types ∙ words_stay_all T formed s u fields h n, none_too_large T formed s u fields h n)
