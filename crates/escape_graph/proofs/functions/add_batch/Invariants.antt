use Rattle.std.proofs.Common.{◌≡◌, ◌++◌, drop}
use Rattle.value_flows.specs.View.{program_of, tags_of as tags_of_data}
use Rattle.escape_graph.specs.Edges.{funcs_edges, numbers}
use Rattle.escape_graph.proofs.functions.add_batch.Given as goal

abbrev pub invariant-loop-f : goal.invariant-loop-f
invariant-loop-f l =
    let p = program_of l.batch.program.now in
    let own = numbers l.batch.funcs.now in
    let tags = tags_of_data l.batch.tags.now in
    l.edges.items ++ funcs_edges p own tags (numbers (drop l.f-index l.batch.funcs.now)) ≡ l.fn.edges.items ++ funcs_edges p own tags own
