use Rattle.std.proofs.Common.{drop, map}
use Rattle.std.specs.Prelude.{◌↔◌}
use Rattle.struct_sizes.specs.Structs.{field_of}
use Rattle.struct_sizes.specs.Faults.{FieldsFail}
use Rattle.struct_sizes.proofs.faults.fields_fail.Given as goal

abbrev pub invariant-loop-field : goal.invariant-loop-field
invariant-loop-field l = FieldsFail l.table (map field_of (drop l.field-index l.fields)) ↔ FieldsFail l.table (map field_of l.fields)
