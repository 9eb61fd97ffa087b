use Rattle.std.proofs.Common.{◌≡◌, ◌++◌, drop, map}
use Rattle.value_flows.specs.View.{program_of, tags_of as tags_of_data, vals_of}
use Rattle.escape_graph.specs.Edges.{numbers, send_each, send_row}
use Rattle.escape_graph.proofs.sending.+send.Given as goal

abbrev pub invariant-send_each-loop-value : goal.invariant-send_each-loop-value
invariant-send_each-loop-value l =
    let p = program_of l.batch.program.now in
    let own = numbers l.batch.funcs.now in
    let tags = tags_of_data l.batch.tags.now in
    l.edges.items ++ send_each p own tags (vals_of (drop l.value-index l.values)) l.targets ≡ l.fn.edges.items ++ send_each p own tags (vals_of l.values) l.targets

abbrev pub invariant-send_row-loop-value : goal.invariant-send_row-loop-value
invariant-send_row-loop-value l =
    let p = program_of l.batch.program.now in
    let own = numbers l.batch.funcs.now in
    let tags = tags_of_data l.batch.tags.now in
    l.edges.items ++ send_row p own tags (vals_of l.value-iterator.a.rest.now) (map (λ ts. ts.items) l.value-iterator.b.rest.now) ≡ l.fn.edges.items ++ send_row p own tags (vals_of l.values) (map (λ ts. ts.items) l.lists)
