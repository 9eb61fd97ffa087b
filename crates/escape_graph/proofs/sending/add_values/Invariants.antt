use Rattle.std.proofs.Common.{◌≡◌, ◌++◌, drop}
use Rattle.escape_graph.specs.Edges.{valued}
use Rattle.escape_graph.proofs.sending.add_values.Given as goal

abbrev pub invariant-loop-target : goal.invariant-loop-target
invariant-loop-target l = l.edges.items ++ valued l.from (drop l.target-index l.targets) ≡ l.fn.edges.items ++ valued l.from l.targets
