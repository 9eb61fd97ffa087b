use Rattle.std.proofs.Common.{drop}
use Rattle.type_faults.proofs.Leasts.{Kept}
use Rattle.given_values.specs.GivenFaults.{SidesFail, placed_range_fault}
use Rattle.given_values.specs.Passing.{seens}
use Rattle.given_values.proofs.values.placed_range_faults.Given as goal

abbrev pub invariant-loop-index : goal.invariant-loop-index
invariant-loop-index l = Kept (SidesFail placed_range_fault l.places (seens l.items)) (SidesFail placed_range_fault (drop l.index l.places) (seens (drop l.index l.items))) l.fault
