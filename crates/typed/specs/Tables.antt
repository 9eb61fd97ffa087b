-- A table of types as contracts see it.
use Rattle.std.specs.Prelude.{◌≡◌, ℕ, suc, if◌then◌else◌, List, [], ◌∷◌, ◌++◌, map, get_or, slice_get, slice_set, position, is_some, Option, None, Some}
use Rattle.std.specs.Option.{option_map}
use Rattle.std.specs.Global.{Vec}
use Rattle.base.specs.declared.ids.TypeId.{TypeId}
use Rattle.base.specs.declared.value_type.ValueType.{ValueType}
use Rattle.base.specs.declared.value_type.ValueType.TheVariants.{Int}
use Rattle.base.specs.Types.{same_type}

-- the types by their numbers, and the fields of each struct by the numbers of their types, where it's told
pub record Table : Type 0 where
  pub types : List ValueType
  pub structs : List (Option (List TypeId))

-- the type that has a number, or else Int
abbrev pub type_at : Table → ℕ → ValueType
type_at T i = get_or T.types i Int

abbrev pub Holds : Table → ℕ → ValueType → Type 0
Holds T i t = slice_get T.types i ≡ Some t

abbrev pub fields_of : Table → ℕ → Option (List TypeId)
fields_of T s = get_or T.structs s None

-- the number of a type
abbrev pub number_of : Table → ValueType → Option ℕ
number_of T t = position (same_type t) T.types

-- a table with a type, which gets the next number if it has none
abbrev pub with_type : Table → ValueType → Table
with_type T t = if is_some (number_of T t) then T else record T { types = T.types ++ t ∷ [] }

-- a table with a struct told
abbrev pub with_fields : Table → ℕ → List TypeId → Table
with_fields T s fields = record T { structs = slice_set T.structs s (Some fields) }

-- a table in which these structs are told, and no others
abbrev pub with_all : Table → List (Option (List TypeId)) → Table
with_all T structs = record T { structs = structs }

-- the fields of structs, each as a plain list
abbrev pub lists_of : List (Option (Vec TypeId)) → List (Option (List TypeId))
lists_of fields = map (λ f. option_map (λ l. l.items) f) fields

-- how many structs are told
abbrev pub told : List (Option (List TypeId)) → ℕ
told [] = 0
told (None ∷ structs) = told structs
told (Some fields ∷ structs) = suc (told structs)

-- the table of a finished program, whose structs are all told
abbrev pub finished : List ValueType → List (List TypeId) → Table
finished types structs = record { types = types; structs = map (λ fields. Some fields) structs }
