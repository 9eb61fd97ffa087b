use Rattle.std.proofs.Common.{drop}
use Rattle.syntax.specs.Expressions.{exs_of}
use Rattle.type_faults.proofs.Leasts.{Kept}
use Rattle.types_go.proofs.ranges.each_fault.Given as goal
use Rattle.types_go.specs.RangeFaults.{EachFails}

abbrev pub invariant-loop-index : goal.invariant-loop-index
invariant-loop-index l = Kept (EachFails l.types l.wanted (exs_of l.es)) (EachFails (drop l.index l.types) (drop l.index l.wanted) (exs_of (drop l.index l.es))) l.fault
