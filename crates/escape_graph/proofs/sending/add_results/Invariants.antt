use Rattle.std.proofs.Common.{◌≡◌, ◌++◌, map}
use Rattle.value_flows.specs.View.{result_of}
use Rattle.escape_graph.specs.Edges.{results_to}
use Rattle.escape_graph.proofs.sending.add_results.Given as goal

abbrev pub invariant-loop-which : goal.invariant-loop-which
invariant-loop-which l = l.edges.items ++ results_to l.f.0 l.j (map result_of l.which-iterator.a.rest.now) (map (λ ts. ts.items) l.which-iterator.b.rest.now) ≡ l.fn.edges.items ++ results_to l.f.0 0 (map result_of l.results) (map (λ ts. ts.items) l.lists)
