use Rattle.components.specs.Graph.{rows}
use Rattle.components.specs.Search.{search_of, measure}
use Rattle.components.proofs.Whole.{Searches}
use Rattle.components.proofs.searching.search_from.Given as goal

abbrev pub invariant-loop-first : goal.invariant-loop-first
invariant-loop-first l = Searches (rows l.edges) (search_of l.fn.search) (search_of l.search) l.node

abbrev pub decreases-loop-first : goal.decreases-loop-first
decreases-loop-first l = measure (rows l.edges) (search_of l.search)
