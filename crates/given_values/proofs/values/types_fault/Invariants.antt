use Rattle.std.proofs.Common.{drop}
use Rattle.type_faults.proofs.Leasts.{Kept}
use Rattle.given_values.specs.GivenFaults.{TypesFail}
use Rattle.given_values.specs.Passing.{seens}
use Rattle.given_values.proofs.values.types_fault.Given as goal

abbrev pub invariant-loop-index : goal.invariant-loop-index
invariant-loop-index l = Kept (TypesFail l.places (seens l.items)) (TypesFail (drop l.index l.places) (seens (drop l.index l.items))) l.fault
