use Rattle.std.proofs.Common.{◌≡◌, ◌++◌, drop, map}
use Rattle.value_flows.specs.View.{result_of}
use Rattle.escape_graph.specs.Locations.{unnamed}
use Rattle.escape_graph.proofs.locations.add_unnamed.Given as goal

abbrev pub invariant-loop-which : goal.invariant-loop-which
invariant-loop-which l = l.locations.items ++ unnamed l.f l.j (map result_of (drop l.which-index l.results)) ≡ l.fn.locations.items ++ unnamed l.f 0 (map result_of l.results)
