use Rattle.std.proofs.Common.{◌≡◌, ◌++◌, drop}
use Rattle.escape_graph.specs.Edges.{addressed}
use Rattle.escape_graph.proofs.sending.add_addresses.Given as goal

abbrev pub invariant-loop-target : goal.invariant-loop-target
invariant-loop-target l = l.edges.items ++ addressed l.from (drop l.target-index l.targets) ≡ l.fn.edges.items ++ addressed l.from l.targets
