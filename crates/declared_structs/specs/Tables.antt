-- The table of a program's types.
use Rattle.std.specs.Prelude.{◌≡◌, ℕ, zero, suc, List, length}
use Rattle.base.specs.declared.value_type.ValueType.TheVariants.{Struct}
use Rattle.struct_sizes.specs.declared.verdicts.Verdicts.{Verdicts}
use Rattle.struct_sizes.specs.Structs.{Fields}
use Rattle.struct_sizes.specs.Verdicts.{IsSettled}
use Rattle.typed.specs.Tables.{Table, with_type}
use Rattle.type_tables.specs.Told.{sized_structs, program_table}

-- a table in which each of some structs has a number
abbrev pub with_structs : Table → ℕ → Table
with_structs T zero = T
with_structs T (suc k) = with_type (with_structs T k) (Struct (record { 0 = k }))

-- the table of the structs: those that aren't refused are told; verdicts on structs are one answer, and so is the table
abbrev pub IsTableOf : List Fields → Table → Type 0
IsTableOf ss T = (found : Verdicts) × IsSettled ss found × (T ≡ with_structs (program_table (sized_structs ss found.verdicts.items)) (length ss))
