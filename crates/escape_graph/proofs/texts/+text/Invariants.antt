use Rattle.std.proofs.Common.{◌≡◌, ◌++◌, drop}
use Rattle.value_flows.specs.View.{program_of, tags_of as tags_of_data, vals_of}
use Rattle.escape_graph.specs.Edges.{numbers, texts}
use Rattle.escape_graph.proofs.texts.+text.Given as goal

abbrev pub invariant-texts-loop-value : goal.invariant-texts-loop-value
invariant-texts-loop-value l =
    let p = program_of l.batch.program.now in
    let own = numbers l.batch.funcs.now in
    let tags = tags_of_data l.batch.tags.now in
    l.edges.items ++ texts p own tags (vals_of (drop l.value-index l.values)) ≡ l.fn.edges.items ++ texts p own tags (vals_of l.values)
