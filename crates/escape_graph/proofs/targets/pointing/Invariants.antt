use Rattle.std.proofs.Common.{◌≡◌, ◌++◌, map}
use Rattle.value_flows.specs.View.{result_of}
use Rattle.escape_graph.specs.Targets.{pointing}
use Rattle.escape_graph.proofs.targets.pointing.Given as goal

abbrev pub invariant-loop-which : goal.invariant-loop-which
invariant-loop-which l = map (λ ts. ts.items) l.pointing.items ++ pointing (map result_of l.which-iterator.a.rest.now) (map (λ ts. ts.items) l.which-iterator.b.rest.now) ≡ pointing (map result_of l.results) (map (λ ts. ts.items) l.lists)
