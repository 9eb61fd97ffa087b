use Rattle.std.proofs.Common.{◌≡◌, ◌++◌, drop, map}
use Rattle.value_flows.specs.View.{act_of, program_of, tags_of as tags_of_data}
use Rattle.escape_graph.specs.Edges.{acts_edges, numbers}
use Rattle.escape_graph.proofs.functions.add_acts.Given as goal

abbrev pub invariant-loop-act : goal.invariant-loop-act
invariant-loop-act l =
    let p = program_of l.batch.program.now in
    let own = numbers l.batch.funcs.now in
    let tags = tags_of_data l.batch.tags.now in
    l.edges.items ++ acts_edges p own tags (map act_of (drop l.act-index l.acts)) ≡ l.fn.edges.items ++ acts_edges p own tags (map act_of l.acts)
