use Rattle.std.proofs.Common.{List, map, take}
use Rattle.deref_walk.specs.declared.graph.Edge.{Edge}
use Rattle.value_flows.specs.View.{result_of}
use Rattle.escape_graph.specs.Targets.{site}
use Rattle.param_tags.specs.Walks.{AreListed, AreWalked}
use Rattle.param_tags.proofs.tags.tags_of_results.Given as goal

abbrev pub invariant-loop-place : goal.invariant-loop-place
invariant-loop-place l = (edges : List Edge) → AreWalked edges l.walks → AreListed edges (site l.l.0) l.f.0 (map result_of (take l.place l.which-items)) l.tags.items
