use Rattle.std.proofs.Common.{◌≡◌, map, take}
use Rattle.call_order.proofs.ordering.funcs_of.Given as goal

abbrev pub invariant-loop-node : goal.invariant-loop-node
invariant-loop-node l = map (λ f. f.0) l.funcs.items ≡ take l.node-index l.nodes
