use Rattle.std.proofs.Common.{drop}
use Rattle.syntax.specs.Expressions.{exs_of}
use Rattle.type_faults.proofs.Leasts.{Kept}
use Rattle.names.specs.Scope.{scope_of}
use Rattle.package_values.specs.ValueFaults.{FormsFail}
use Rattle.package_values.proofs.faults.forms_fault.Given as goal

abbrev pub invariant-loop-value : goal.invariant-loop-value
invariant-loop-value l = Kept (FormsFail l.text (scope_of l.scope) (exs_of l.values)) (FormsFail l.text (scope_of l.scope) (exs_of (drop l.value-index l.values))) l.fault
