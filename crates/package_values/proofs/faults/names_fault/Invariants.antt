use Rattle.std.proofs.Common.{drop}
use Rattle.type_faults.proofs.Leasts.{Kept}
use Rattle.names.specs.Scope.{scope_of}
use Rattle.package_values.specs.ValueFaults.{NamesFail}
use Rattle.package_values.specs.Passing.{item_views}
use Rattle.package_values.proofs.faults.names_fault.Given as goal

abbrev pub invariant-loop-index : goal.invariant-loop-index
invariant-loop-index l = Kept (NamesFail l.text (scope_of l.scope) 0 (item_views l.items)) (NamesFail l.text (scope_of l.scope) l.index (item_views (drop l.index l.items))) l.fault
