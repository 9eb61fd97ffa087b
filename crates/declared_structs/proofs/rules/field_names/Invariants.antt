use Rattle.std.proofs.Common.{◌≡◌, ◌++◌, drop}
use Rattle.syntax.specs.Declarations.{fields_of}
use Rattle.declared_structs.specs.Faults.{field_names}
use Rattle.declared_structs.proofs.rules.field_names.Given as goal

abbrev pub invariant-loop-field : goal.invariant-loop-field
invariant-loop-field l = field_names (fields_of l.fields) ≡ l.names.items ++ field_names (fields_of (drop l.field-index l.fields))
