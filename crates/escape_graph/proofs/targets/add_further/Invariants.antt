use Rattle.std.proofs.Common.{◌≡◌, drop}
use Rattle.escape_graph.specs.Targets.{further, with_targets}
use Rattle.escape_graph.proofs.targets.add_further.Given as goal

abbrev pub invariant-loop-target : goal.invariant-loop-target
invariant-loop-target l = with_targets l.targets.items (further l.by (drop l.target-index l.more)) ≡ with_targets l.fn.targets.items (further l.by l.more)
