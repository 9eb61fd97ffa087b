use Rattle.std.proofs.Common.{List, take}
use Rattle.deref_walk.specs.declared.graph.Edge.{Edge}
use Rattle.param_tags.specs.Heap.{heap_of}
use Rattle.escape_graph.specs.Targets.{site}
use Rattle.param_tags.specs.Walks.{AreWalked, IsTagAmong, roots_of}
use Rattle.param_tags.proofs.tags.flow_to.Given as goal

abbrev pub invariant-loop-w : goal.invariant-loop-w
invariant-loop-w l = (edges : List Edge) → AreWalked edges l.walks → IsTagAmong (roots_of (heap_of l.placed) l.end) edges (site l.l.0) (take l.w-index l.walks) l.lowest
