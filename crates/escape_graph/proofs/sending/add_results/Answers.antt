use Rattle.std.proofs.Common.{◌++◌, map}
use Rattle.std.proofs.lemmas.Slice.Zip.{either_empty_from_Zip}
use Rattle.value_flows.specs.View.{result_of}
use Rattle.escape_graph.specs.Edges.{results_to}
use Rattle.escape_graph.proofs.Pairs.{lists, added_all, results_end}
use Rattle.escape_graph.proofs.sending.add_results.Goals as goal

pub returns : goal.returns
returns c =
    let f = c.args.f.0 in
    let at = c.loop-which.which-iterator in
    let left = results_to f c.loop-which.j (map result_of at.a.rest.now) (lists at.b.rest.now) in
    let all = c.args.edges.now.items ++ results_to f 0 (map result_of c.args.results.now) (lists c.args.lists.now) in
    added_all c.loop-which.edges.items left all (results_end f c.loop-which.j at.a.rest.now at.b.rest.now (either_empty_from_Zip at c.next.new.self c.next.result c.in-None.is c.next.ensures.steps)) c.loop-which.invariant
