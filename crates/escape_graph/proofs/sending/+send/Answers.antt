use Rattle.std.proofs.Common.{◌++◌}
use Rattle.std.proofs.lemmas.Slice.Zip.{either_empty_from_Zip}
use Rattle.value_flows.specs.View.{program_of, tags_of as tags_of_data, vals_of}
use Rattle.escape_graph.specs.Edges.{numbers, send_row}
use Rattle.escape_graph.proofs.Pairs.{lists, added_all, row_ends}
use Rattle.escape_graph.proofs.sending.+send.Goals as goal

pub send_row-returns : goal.send_row-returns
send_row-returns t c =
    let p = program_of c.args.batch.program.now in
    let own = numbers c.args.batch.funcs.now in
    let tags = tags_of_data c.args.batch.tags.now in
    let at = c.loop-value.value-iterator in
    let left = send_row p own tags (vals_of at.a.rest.now) (lists at.b.rest.now) in
    let all = c.args.edges.now.items ++ send_row p own tags (vals_of c.args.values.now) (lists c.args.lists.now) in
    added_all c.loop-value.edges.items left all (row_ends p own tags at.a.rest.now at.b.rest.now (either_empty_from_Zip at c.next.new.self c.next.result c.in-None.is c.next.ensures.steps)) c.loop-value.invariant
