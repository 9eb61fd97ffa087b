use Rattle.std.proofs.Common.{drop}
use Rattle.type_faults.proofs.Leasts.{Kept}
use Rattle.given_values.specs.Passing.{seens}
use Rattle.package_values.specs.ValueFaults.{ValuesFail}
use Rattle.package_values.proofs.faults.values_fault.Given as goal

abbrev pub invariant-loop-item : goal.invariant-loop-item
invariant-loop-item l = Kept (ValuesFail l.value_type (seens l.items)) (ValuesFail l.value_type (seens (drop l.item-index l.items))) l.fault
