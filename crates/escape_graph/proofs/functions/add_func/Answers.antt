use Rattle.std.proofs.Common.{◌≡◌, List, [], map, Option, sym, ap, ◌∙◌}
use Rattle.std.proofs.lemmas.List.{append-nil}
use Rattle.value_flows.specs.declared.program.Act.{Act}
use Rattle.value_flows.specs.Syntax.{Func}
use Rattle.value_flows.specs.View.{act_of, program_of, tags_of as tags_of_data}
use Rattle.escape_graph.specs.Edges.{acts_edges, edges_in, func_edges, numbers}
use Rattle.escape_graph.proofs.functions.add_func.Goals as goal

pub returns-in-None : goal.returns-in-None
returns-in-None c =
    let p = program_of c.args.batch.program.now in
    let own = numbers c.args.batch.funcs.now in
    let tags = tags_of_data c.args.batch.tags.now in
    let none : func_edges p own tags c.args.f.0 ≡ [] = ap (λ (o : Option Func). edges_in p own tags o) (sym c.in-None.ensures) in
    rw none (sym (append-nil c.args.edges.now.items))

pub returns-in-Some : goal.returns-in-Some
returns-in-Some c =
    let p = program_of c.args.batch.program.now in
    let own = numbers c.args.batch.funcs.now in
    let tags = tags_of_data c.args.batch.tags.now in
    let same : func_edges p own tags c.args.f.0 ≡ acts_edges p own tags (map act_of c.deref.result.now) = ap (λ (o : Option Func). edges_in p own tags o) (sym c.in-Some.ensures) ∙ ap (λ (b : List Act). acts_edges p own tags (map act_of b)) (sym c.deref.ensures.value) in
    rw same c.add_acts.ensures
