use Rattle.std.proofs.Common.{drop}
use Rattle.syntax.specs.Declarations.{fields_of}
use Rattle.type_faults.proofs.Leasts.{Kept}
use Rattle.names.specs.Scope.{scope_of}
use Rattle.function_heads.proofs.head_types.named_fault.Given as goal
use Rattle.signatures.specs.Signatures.{named_params}
use Rattle.function_heads.specs.HeadFaults.{TypesFail}

abbrev pub invariant-loop-field : goal.invariant-loop-field
invariant-loop-field l = Kept (TypesFail l.text (scope_of l.scope) (named_params (fields_of l.fields))) (TypesFail l.text (scope_of l.scope) (named_params (fields_of (drop l.field-index l.fields)))) l.fault
