use Rattle.std.proofs.Common.{drop}
use Rattle.type_faults.proofs.Leasts.{Kept}
use Rattle.given_values.specs.GivenFaults.{PartsFail}
use Rattle.given_values.specs.Passing.{seens}
use Rattle.given_values.proofs.values.parts_fault.Given as goal

abbrev pub invariant-loop-item : goal.invariant-loop-item
invariant-loop-item l = Kept (PartsFail (seens l.items)) (PartsFail (seens (drop l.item-index l.items))) l.fault
