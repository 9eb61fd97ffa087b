use Rattle.std.proofs.Common.{drop}
use Rattle.syntax.specs.Expressions.{exs_of}
use Rattle.type_faults.proofs.Leasts.{Kept}
use Rattle.names.specs.Scope.{scope_of}
use Rattle.function_heads.proofs.head_types.unnamed_fault.Given as goal
use Rattle.signatures.specs.Signatures.{unnamed_params}
use Rattle.function_heads.specs.HeadFaults.{TypesFail}

abbrev pub invariant-loop-type_expr : goal.invariant-loop-type_expr
invariant-loop-type_expr l = Kept (TypesFail l.text (scope_of l.scope) (unnamed_params (exs_of l.types))) (TypesFail l.text (scope_of l.scope) (unnamed_params (exs_of (drop l.type_expr-index l.types)))) l.fault
