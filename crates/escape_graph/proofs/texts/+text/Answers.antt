use Rattle.std.proofs.Common.{◌≡◌, ◌++◌, arith}
use Rattle.std.proofs.lemmas.Result.{on_ok_weaker}
use Rattle.value_flows.proofs.Rows.{value_rows}
use Rattle.value_flows.specs.View.{program_of, tags_of as tags_of_data, val_of, vals_of}
use Rattle.escape_graph.specs.Edges.{numbers, text, texts}
use Rattle.escape_graph.proofs.Chained.{two_lists}
use Rattle.escape_graph.proofs.texts.+text.Goals as goal

pub text-returns-in_ok-texts-in-Beside : goal.text-returns-in_ok-texts-in-Beside
text-returns-in_ok-texts-in-Beside t c =
    let p = program_of c.args.batch.program.now in
    let own = numbers c.args.batch.funcs.now in
    let tags = tags_of_data c.args.batch.tags.now in
    let others = texts p own tags (vals_of c.in-Beside.values.items) in
    let value = text p own tags (val_of c.in-Beside.value.value) in
    let all = text p own tags (val_of c.args.value.now) in
    let whole : all ≡ others ++ value = grind (arith, value_rows) in
    let first = rw c.deref-in-Beside.ensures.value at c.in_ok-texts-in-Beside.ensures in
    let second = rw c.deref-value.ensures at c.text.ensures in
    on_ok_weaker c.text.result (λ last. two_lists c.args.edges.now.items c.texts-in-Beside.new.edges.items c.text.new.edges.items others value all first last whole) second
