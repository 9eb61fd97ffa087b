-- The words of all types by one pass, where those of the structs are kept.
use Rattle.std.proofs.Common.{◌≡◌, ℕ, ◌+◌, ◌<◌, List, [], ◌∷◌, ◌++◌, length, map, take, get_or, slice_get, ◌*◌, zero, suc, Option, None, Some, refl, sym, ap, ap₂, ◌∙◌}
use Rattle.std.specs.Option.{unwrap_or, option_map, option_and_then}
use Rattle.std.proofs.lemmas.Option.{slice_get-get_or}
use Rattle.typed_syntax.specs.Types.{width}
use Rattle.base.specs.declared.ids.TypeId.{TypeId}
use Rattle.base.specs.declared.value_type.ValueType.{ValueType}
use Rattle.base.specs.declared.value_type.ValueType.TheVariants.{Int, Bool as Truth, Struct, Array, Pointer, Slice}
use Rattle.typed.specs.declared.told.Told.{Told}
use Rattle.typed.specs.Tables.{Table, Holds}
use Rattle.typed.specs.Words.{within_limit, known}
use Rattle.typed.specs.Trees.{words_of}
use Rattle.typed.specs.Formed.{IsFormed, AreStructWords}
use Rattle.typed.specs.Memory.{fields_in, table_of, IsCounted, ToldWords, words_by}
use Rattle.typed.proofs.Lists.{get_map_take, map_take_more}
use Rattle.typed.proofs.Limits.{allowed_within}
use Rattle.typed.proofs.Nested.{told_tree}
use Rattle.typed.proofs.Counted.{words_kept}

module _ (types : List ValueType) (told : List (Option Told)) (formed : IsFormed (table_of types told)) (kept : ToldWords (table_of types told) told) where
  abbrev T : Table
  T = table_of types told

  abbrev all : List (Option ℕ)
  all = map (words_of T) types

  counted : IsCounted T all told
  counted = record { types = refl; structs = kept }

  -- the words of a type need those of its elements alone
  same_words : (before : List (Option ℕ)) (t : ValueType) → ((n : ℕ) (e : TypeId) → t ≡ Array n e → get_or before e.0 None ≡ get_or all e.0 None) → words_by before told t ≡ words_by all told t
  same_words before Int h = refl
  same_words before Truth h = refl
  same_words before (Struct s) h = refl
  same_words before (Array n e) h = ap (option_and_then (λ w. within_limit (n * w))) (h n e refl)
  same_words before (Pointer e) h = refl
  same_words before (Slice e) h = refl

  words_next : (before : List (Option ℕ)) (i : ℕ) → i < length types → before ≡ map (words_of T) (take i types) → words_by before told (get_or types i Int) ≡ words_of T (get_or types i Int)
  words_next before i l is =
      let t = get_or types i Int in
      let held : Holds T i t = slice_get-get_or types i Int l in
      same_words before t (λ n e p. ap (λ ws. get_or ws e.0 None) is ∙ get_map_take (words_of T) types i e.0 None (formed.placed i (Array n e) (held ∙ ap (λ u. Some u) p)).0)
      ∙ words_kept types told all formed counted t ∙ allowed_within (words_of T t) (λ w e. (formed.types i t w held e).1)

  -- one more type
  pub one_more : (before : List (Option ℕ)) (i : ℕ) (w : Option ℕ) → i < length types → before ≡ map (words_of T) (take i types) → w ≡ words_by before told (get_or types i Int)
      → before ++ w ∷ [] ≡ map (words_of T) (take (i + 1) types)
  one_more before i w l is e = ap₂ (λ ws v. ws ++ v ∷ []) is (e ∙ words_next before i l is) ∙ sym (map_take_more (words_of T) types i Int l)

fields_at : (told : List (Option Told)) (i : ℕ) (t : Told) → slice_get told i ≡ Some (Some t) → get_or (map fields_in told) i None ≡ Some t.fields.items
fields_at [] i t h = absurd cc h
fields_at (u ∷ told) zero t h = let q : u ≡ Some t = cc in ap fields_in q
fields_at (u ∷ told) (suc i) t h = fields_at told i t h

-- the words of structs that are told are those that all structs have
pub words_told : (types : List ValueType) (told : List (Option Told)) (words : List (Option ℕ)) → IsFormed (table_of types told) → AreStructWords (table_of types told) words
    → ((s : ℕ) (t : Told) → slice_get told s ≡ Some (Some t) → t.words ≡ known words s) → ToldWords (table_of types told) told
words_told types told words formed are kept s t h =
    let T = table_of types told in
    let f = fields_at told s.0 t h in
    let x = told_tree T formed s t.fields.items f in
    let w : words_of T (Struct s) ≡ Some (width x.0) = ap (option_map width) x.1 in
    w ∙ ap (λ v. Some v) (sym (kept s.0 t h ∙ ap (λ o. unwrap_or o 0) (are s t.fields.items f ∙ w)))
