use Rattle.std.proofs.Common.{drop}
use Rattle.type_faults.proofs.Leasts.{Kept}
use Rattle.given_values.specs.GivenFaults.{RangeFails}
use Rattle.given_values.specs.Passing.{seens}
use Rattle.given_values.proofs.values.range_faults.Given as goal

abbrev pub invariant-loop-item : goal.invariant-loop-item
invariant-loop-item l = Kept (RangeFails (seens l.items)) (RangeFails (seens (drop l.item-index l.items))) l.fault
