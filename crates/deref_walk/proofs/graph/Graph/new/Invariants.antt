use Rattle.std.specs.Prelude.{◌≡◌, ℕ, ◌<◌, negsuc, ◌≤ℤ◌, Some, slice_get}
use Rattle.deref_walk.specs.declared.graph.Edge.{Edge}
use Rattle.deref_walk.proofs.graph.Graph.new.Given as goal

abbrev pub invariant-loop-edge : goal.invariant-loop-edge
invariant-loop-edge l = (k : ℕ) (e : Edge) → k < l.edge-index → slice_get l.edge-items k ≡ Some e → negsuc 0 ≤ℤ e.weight
