use Rattle.std.proofs.Common.{◌≡◌, drop}
use Rattle.std.specs.Prelude.{◌&&◌}
use Rattle.types_go.proofs.ranges.each_accept.Given as goal
use Rattle.types_go.specs.Ranges.{each_accept}

abbrev pub invariant-loop-index : goal.invariant-loop-index
invariant-loop-index l = each_accept l.types l.wanted ≡ (l.all && each_accept (drop l.index l.types) (drop l.index l.wanted))
