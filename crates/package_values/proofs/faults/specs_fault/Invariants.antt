use Rattle.std.proofs.Common.{drop}
use Rattle.syntax.specs.Statements.{value_specs_of}
use Rattle.type_faults.proofs.Leasts.{Kept}
use Rattle.names.specs.Scope.{scope_of}
use Rattle.package_values.specs.ValueFaults.{SpecsFail}
use Rattle.package_values.proofs.faults.specs_fault.Given as goal

abbrev pub invariant-loop-spec : goal.invariant-loop-spec
invariant-loop-spec l = Kept (SpecsFail l.text (scope_of l.scope) l.pos (value_specs_of l.specs)) (SpecsFail l.text (scope_of l.scope) l.pos (value_specs_of (drop l.spec-index l.specs))) l.fault
