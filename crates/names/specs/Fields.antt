-- The fields of structs by their names, and the parts of structs and arrays by their numbers (Go specification, "Struct types", "Array
-- types", "Selectors").
use Rattle.std.specs.Prelude.{ℕ, nat_lt, List, Option, Some, None, length, option_and_then, slice_get, if◌then◌else◌}
use Rattle.std.specs.Option.{option_map}
use Rattle.base.specs.declared.ids.TypeId.{TypeId}
use Rattle.base.specs.declared.value_type.ValueType.{ValueType}
use Rattle.base.specs.declared.value_type.ValueType.TheVariants.{Struct, Array}
use Rattle.typed.specs.Tables.{Table, type_at, fields_of, number_of}
use Rattle.type_faults.specs.Given.{allowed}
use Rattle.names.specs.Blocks.{innermost}
use Rattle.names.specs.declared.fields.Part.{Part}
use Rattle.names.specs.Scope.{Scope}
use Rattle.names.specs.Types.{is_known}

-- the type of a struct's field, by its number
abbrev pub field_type : Table → (struct field : ℕ) → Option ValueType
field_type T k n = option_map (λ e. type_at T e.0) (option_and_then (λ fields. slice_get fields n) (fields_of T k))

-- the type of the part that has a number: a field of a struct that is told, or an element of an array
abbrev pub part_type : Table → ValueType → ℕ → Option ValueType
part_type T (Struct k) n = field_type T k.0 n
part_type T (Array m e) n = if nat_lt n m then Some (type_at T e.0) else None
part_type T t n = None

-- a part of the type that has the number `owner`
abbrev pub typed_part : (owner n : ℕ) → ValueType → Part
typed_part owner n t = record { owner = record { 0 = owner }; number = n; value_type = t }

-- the number of a type that has words
abbrev pub known_number : Table → ValueType → Option ℕ
known_number T t = allowed (is_known T t) (number_of T t)

-- the part of a type that has a number
abbrev pub part_of : Table → ValueType → ℕ → Option Part
part_of T t n = option_and_then (λ owner. option_map (typed_part owner n) (part_type T t n)) (known_number T t)

abbrev pub field_count : Option (List TypeId) → ℕ
field_count None = 0
field_count (Some fields) = length fields

-- how many parts a type has: the fields of a struct, or the elements of an array
abbrev pub part_count : Table → ValueType → ℕ
part_count T (Struct k) = field_count (fields_of T k.0)
part_count T (Array m e) = m
part_count T t = 0

-- the number of a struct's field that has a name
abbrev pub field_number : Scope → (struct : ℕ) → List ℕ → Option ℕ
field_number s k name = option_and_then (λ names. innermost names name) (slice_get s.fields k)

-- the field of a type that has a name, where the type is a struct with such a field
abbrev pub named_field : Scope → ValueType → List ℕ → Option Part
named_field s (Struct k) name = option_and_then (part_of s.types (Struct k)) (field_number s k.0 name)
named_field s t name = None
