use Rattle.type_faults.proofs.Leasts.{Kept}
use Rattle.names.specs.Scope.{scope_of}
use Rattle.package_values.specs.ValueFaults.{Recurs}
use Rattle.package_values.specs.Passing.{item_views}
use Rattle.package_values.proofs.Rules.{RecursFrom}
use Rattle.package_values.proofs.faults.recursion_fault.Given as goal

abbrev pub invariant-loop-index : goal.invariant-loop-index
invariant-loop-index l = Kept (Recurs l.text (scope_of l.scope) (item_views l.items)) (RecursFrom l.text (scope_of l.scope) (item_views l.items) l.index) l.fault
