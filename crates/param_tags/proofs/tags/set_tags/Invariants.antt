use Rattle.std.proofs.Common.{◌≡◌, ◌⊎◌, ℕ, false, List, length, drop}
use Rattle.std.specs.List.{Contains}
use Rattle.deref_walk.specs.declared.graph.Edge.{Edge}
use Rattle.base.specs.declared.ids.FuncId.{FuncId}
use Rattle.value_flows.specs.View.{program_of}
use Rattle.value_flows.specs.View.{tags_of as view_of}
use Rattle.escape_graph.specs.Edges.{numbers, is_own, tags_of}
use Rattle.param_tags.specs.Heap.{heap_of, IsTagged}
use Rattle.param_tags.specs.Walks.{AreWalked}
use Rattle.param_tags.proofs.tags.set_tags.Given as goal

abbrev pub invariant-loop-f : goal.invariant-loop-f
invariant-loop-f l = record {
  size : length (view_of l.tags) ≡ length (view_of l.fn.tags);
  others : (g : ℕ) → is_own (numbers l.batch) g ≡ false → tags_of (view_of l.tags) g ≡ tags_of (view_of l.fn.tags) g;
  tagged : (edges : List Edge) → AreWalked edges l.walks → (f : FuncId) → Contains l.batch f → Contains (drop l.f-index l.batch) f ⊎ IsTagged (program_of l.program) edges (heap_of l.placed) (view_of l.tags) f.0;
}
