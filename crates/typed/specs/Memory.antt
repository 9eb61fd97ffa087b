-- A table in memory.
use Rattle.std.specs.Prelude.{◌≡◌, ℕ, ◌*◌, ◌==◌, if◌then◌else◌, List, map, slice_get, get_or, Option, None, Some}
use Rattle.std.specs.Option.{unwrap_or, option_map, option_and_then}
use Rattle.base.specs.declared.ids.TypeId.{TypeId}
use Rattle.typed.specs.declared.told.Told.{Told}
use Rattle.base.specs.declared.ids.StructId.{StructId}
use Rattle.base.specs.declared.value_type.ValueType.{ValueType}
use Rattle.base.specs.declared.value_type.ValueType.TheVariants.{Int, Bool as Truth, Struct, Array, Pointer, Slice}
use Rattle.typed.specs.Tables.{Table}
use Rattle.typed.specs.Trees.{words_of}
use Rattle.typed.specs.Words.{within_limit}

abbrev pub fields_in : Option Told → Option (List TypeId)
fields_in t = option_map (λ s. s.fields.items) t

abbrev pub table_of : List ValueType → List (Option Told) → Table
table_of types structs = record { types = types; structs = map fields_in structs }

-- the words that are kept beside the structs are theirs
abbrev pub ToldWords : Table → List (Option Told) → Type 0
ToldWords T told = (s : StructId) (t : Told) → slice_get told s.0 ≡ Some (Some t) → words_of T (Struct s) ≡ Some t.words

-- and so are those beside the types
pub record IsCounted (T : Table) (words : List (Option ℕ)) (told : List (Option Told)) : Type 0 where
  pub types : words ≡ map (words_of T) T.types
  pub structs : ToldWords T told

-- ---- words by those that are kept

abbrev pub struct_words : List (Option Told) → ℕ → Option ℕ
struct_words told s = option_map (λ t. t.words) (get_or told s None)

abbrev pub words_by : List (Option ℕ) → List (Option Told) → ValueType → Option ℕ
words_by words told Int = Some 1
words_by words told Truth = Some 1
words_by words told (Struct s) = struct_words told s.0
words_by words told (Array n e) = option_and_then (λ w. within_limit (n * w)) (get_or words e.0 None)
words_by words told (Pointer e) = Some 1
words_by words told (Slice e) = Some 3

abbrev pub least_by : List (Option ℕ) → List (Option Told) → ValueType → ℕ
least_by words told (Array n e) = n * unwrap_or (get_or words e.0 None) 1
least_by words told t = unwrap_or (words_by words told t) 1

-- where the struct s is told too, and has `words` words
abbrev pub told_by : List (Option ℕ) → List (Option Told) → ℕ → ℕ → ValueType → Option ℕ
told_by before told s words Int = Some 1
told_by before told s words Truth = Some 1
told_by before told s words (Struct r) = if r.0 == s then Some words else struct_words told r.0
told_by before told s words (Array n e) = option_map (λ w. n * w) (get_or before e.0 None)
told_by before told s words (Pointer e) = Some 1
told_by before told s words (Slice e) = Some 3
