use Rattle.components.specs.Graph.{rows}
use Rattle.components.specs.Search.{search_of}
use Rattle.components.proofs.Whole.{IsBetween}
use Rattle.components.proofs.searching.strong_components.Given as goal

abbrev pub invariant-loop-node : goal.invariant-loop-node
invariant-loop-node l = IsBetween (rows l.edges) (search_of l.search) l.node
