use Rattle.std.proofs.Common.{◌≡◌, ◌++◌, drop}
use Rattle.escape_graph.specs.Targets.{further}
use Rattle.escape_graph.proofs.targets.further.Given as goal

abbrev pub invariant-loop-target : goal.invariant-loop-target
invariant-loop-target l = l.moved.items ++ further l.by (drop l.target-index l.targets) ≡ further l.by l.targets
