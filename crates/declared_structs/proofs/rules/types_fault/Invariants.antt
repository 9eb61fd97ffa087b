use Rattle.std.proofs.Common.{drop}
use Rattle.syntax.specs.Declarations.{fields_of}
use Rattle.type_faults.proofs.Leasts.{Kept}
use Rattle.names.specs.Scope.{scope_of}
use Rattle.declared_structs.specs.Faults.{FieldTypesFail}
use Rattle.declared_structs.proofs.rules.types_fault.Given as goal

abbrev pub invariant-loop-field : goal.invariant-loop-field
invariant-loop-field l = Kept (FieldTypesFail l.text (scope_of l.scope) (fields_of l.fields)) (FieldTypesFail l.text (scope_of l.scope) (fields_of (drop l.field-index l.fields))) l.fault
