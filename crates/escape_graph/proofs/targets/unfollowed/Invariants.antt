use Rattle.std.proofs.Common.{◌≡◌, ◌++◌, drop, false}
use Rattle.escape_graph.specs.Targets.{reached}
use Rattle.escape_graph.proofs.targets.unfollowed.Given as goal

abbrev pub invariant-loop-target : goal.invariant-loop-target
invariant-loop-target l = l.near.items ++ reached false (drop l.target-index l.targets) ≡ reached false l.targets
