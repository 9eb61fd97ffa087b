use Rattle.std.proofs.Common.{ap, sym, ◌∙◌}
use Rattle.std.specs.Prelude.{slice_index_or}
use Rattle.std.proofs.lemmas.Result.{on_ok_weaker}
use Rattle.components.specs.declared.path.Place.TheVariants.{Placed}
use Rattle.components.specs.Graph.{rows}
use Rattle.components.specs.Search.{search_of}
use Rattle.components.proofs.Steps.{step_new, step_back, step_past}
use Rattle.components.proofs.searching.follow.Goals as goal

pub returns-in-New : goal.returns-in-New
returns-in-New c =
    let t = rows c.args.edges.now in
    let s = search_of c.args.search.now in
    let place = sym (c.place_of.ensures ∙ ap (λ l. slice_index_or l c.args.edge.to Placed) c.deref.ensures.value) in
    on_ok_weaker c.enter.result (λ is. step_new t s c.args.edge c.requires (search_of c.enter.new.search) (place ∙ c.in-New.is) is) c.enter.ensures

pub returns-in-OnPath : goal.returns-in-OnPath
returns-in-OnPath c =
    let t = rows c.args.edges.now in
    let s = search_of c.args.search.now in
    let place = sym (c.place_of.ensures ∙ ap (λ l. slice_index_or l c.args.edge.to Placed) c.deref.ensures.value) in
    step_back t s c.args.edge c.requires c.in-OnPath.place c.join.new.starts.items (place ∙ c.in-OnPath.is) c.join.ensures

pub returns-in-Placed : goal.returns-in-Placed
returns-in-Placed c =
    let t = rows c.args.edges.now in
    let s = search_of c.args.search.now in
    let place = sym (c.place_of.ensures ∙ ap (λ l. slice_index_or l c.args.edge.to Placed) c.deref.ensures.value) in
    step_past t s c.args.edge c.requires (place ∙ c.in-Placed.is)
