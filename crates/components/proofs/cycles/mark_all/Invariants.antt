use Rattle.std.proofs.Common.{◌≡◌, take, true}
use Rattle.components.specs.Search.{set_all}
use Rattle.components.proofs.cycles.mark_all.Given as goal

abbrev pub invariant-loop-node : goal.invariant-loop-node
invariant-loop-node l = l.marks ≡ set_all true l.fn.marks (take l.node-index l.nodes)
