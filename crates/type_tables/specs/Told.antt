-- The table of the types of a program. The numbers of types depend on the order of the text alone.
use Rattle.std.specs.Prelude.{ℕ, List, [], ◌∷◌, length, map, replicate, Option, Some, None}
use Rattle.std.specs.List.{fold}
use Rattle.std.specs.Option.{option_map, unwrap_or}
use Rattle.base.specs.declared.ids.TypeId.{TypeId}
use Rattle.base.specs.declared.value_type.ValueType.{ValueType}
use Rattle.base.specs.declared.value_type.ValueType.TheVariants.{Int as IntType, Bool as BoolType, Struct as StructType, Array as ArrayType}
use Rattle.struct_sizes.specs.declared.forms.Prefix.{Prefix}
use Rattle.struct_sizes.specs.declared.forms.Prefix.TheVariants.{Pointer, Slice, Array}
use Rattle.struct_sizes.specs.declared.forms.Base.{Base}
use Rattle.struct_sizes.specs.declared.forms.Base.TheVariants.{Int, Bool as Truth, Struct}
use Rattle.struct_sizes.specs.declared.verdicts.Verdict.{Verdict}
use Rattle.struct_sizes.specs.declared.verdicts.Verdict.TheVariants.{Sized, Refused}
use Rattle.struct_sizes.specs.Structs.{Prefixed, Fields}
use Rattle.typed.specs.Tables.{Table, number_of, with_type, with_all}

abbrev pub base_type : Base → ValueType
base_type Int = IntType
base_type Truth = BoolType
base_type (Struct id) = StructType id

-- the number in a table of the type that some prefixes and a base make. Pointers and slices have no types yet.
abbrev pub number_in : Table → List Prefix → Base → ℕ
number_in T [] base = unwrap_or (number_of T (base_type base)) 0
number_in T (Array n ∷ ps) base = unwrap_or (number_of T (ArrayType n (record { 0 = number_in T ps base }))) 0
number_in T (Pointer ∷ ps) base = number_in T ps base
number_in T (Slice ∷ ps) base = number_in T ps base

-- a table with such a type: its base enters, and then its arrays, from the innermost outwards
abbrev pub with_prefixed : Table → List Prefix → Base → Table
with_prefixed T [] base = with_type T (base_type base)
with_prefixed T (Array n ∷ ps) base =
    with_type (with_prefixed T ps base) (ArrayType n (record { 0 = number_in (with_prefixed T ps base) ps base }))
with_prefixed T (Pointer ∷ ps) base = with_prefixed T ps base
with_prefixed T (Slice ∷ ps) base = with_prefixed T ps base

abbrev pub with_field : Table → Option Prefixed → Table
with_field T None = T
with_field T (Some t) = with_prefixed T t.prefixes t.base

abbrev pub field_number : Table → Option Prefixed → TypeId
field_number T None = record { 0 = 0 }
field_number T (Some t) = record { 0 = number_in T t.prefixes t.base }

-- structs that aren't refused have fields, and the others none
abbrev pub sized_struct : Verdict → Fields → Option Fields
sized_struct (Sized words) fs = Some fs
sized_struct (Refused refusal) fs = None

abbrev pub sized_structs : List Fields → List Verdict → List (Option Fields)
sized_structs [] vs = []
sized_structs (fs ∷ ss) [] = None ∷ sized_structs ss []
sized_structs (fs ∷ ss) (v ∷ vs) = sized_struct v fs ∷ sized_structs ss vs

abbrev pub with_struct : Table → Option Fields → Table
with_struct T None = T
with_struct T (Some fs) = fold with_field T fs

abbrev pub struct_numbers : Table → Option Fields → Option (List TypeId)
struct_numbers T s = option_map (map (field_number T)) s

-- the basic types, and structs that are not told
abbrev pub basic : ℕ → Table
basic count = record { types = IntType ∷ BoolType ∷ []; structs = replicate count None }

-- the types of all fields, in the order of the text
abbrev pub entered_types : List (Option Fields) → Table
entered_types structs = fold with_struct (basic (length structs)) structs

-- and each struct told with the types of its fields
abbrev pub program_table : List (Option Fields) → Table
program_table structs = with_all (entered_types structs) (map (struct_numbers (entered_types structs)) structs)
