use Rattle.std.proofs.Common.{◌≡◌, ◌++◌, drop, map}
use Rattle.value_flows.specs.View.{program_of, tags_of as tags_of_data}
use Rattle.escape_graph.specs.Edges.{whole_edges}
use Rattle.escape_graph.proofs.lowering.add_batches.Given as goal

abbrev pub invariant-loop-funcs : goal.invariant-loop-funcs
invariant-loop-funcs l =
    let p = program_of l.program in
    let tags = tags_of_data l.tags in
    l.edges.items ++ whole_edges p tags (map (λ b. b.items) (drop l.funcs-index l.batches)) ≡ l.fn.edges.items ++ whole_edges p tags (map (λ b. b.items) l.batches)
