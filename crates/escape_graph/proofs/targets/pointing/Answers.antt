use Rattle.std.proofs.Common.{map}
use Rattle.std.proofs.lemmas.Slice.Zip.{either_empty_from_Zip}
use Rattle.value_flows.specs.View.{result_of}
use Rattle.escape_graph.specs.Targets.{pointing}
use Rattle.escape_graph.proofs.Pairs.{lists, added_all, pointing_ends}
use Rattle.escape_graph.proofs.targets.pointing.Goals as goal

pub returns : goal.returns
returns c =
    let at = c.loop-which.which-iterator in
    let left = pointing (map result_of at.a.rest.now) (lists at.b.rest.now) in
    let all = pointing (map result_of c.args.results.now) (lists c.args.lists.now) in
    added_all (lists c.loop-which.pointing.items) left all (pointing_ends at.a.rest.now at.b.rest.now (either_empty_from_Zip at c.next.new.self c.next.result c.in-None.is c.next.ensures.steps)) c.loop-which.invariant
