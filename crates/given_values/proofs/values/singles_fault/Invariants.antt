use Rattle.std.proofs.Common.{drop}
use Rattle.type_faults.proofs.Leasts.{Kept}
use Rattle.given_values.specs.GivenFaults.{SinglesFail}
use Rattle.given_values.specs.Passing.{seens}
use Rattle.given_values.proofs.values.singles_fault.Given as goal

abbrev pub invariant-loop-item : goal.invariant-loop-item
invariant-loop-item l = Kept (SinglesFail (seens l.items)) (SinglesFail (seens (drop l.item-index l.items))) l.fault
