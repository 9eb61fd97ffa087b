use Rattle.std.proofs.Common.{◌≡◌, take}
use Rattle.escape_graph.specs.Edges.{numbers}
use Rattle.flow_batches.proofs.batches.batch_of.Given as goal

abbrev pub invariant-loop-node : goal.invariant-loop-node
invariant-loop-node l = numbers l.batch.items ≡ take l.node-index l.nodes
