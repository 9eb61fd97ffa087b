use Rattle.std.proofs.Common.{sym, ap, ◌∙◌}
use Rattle.std.specs.Prelude.{slice_index_or}
use Rattle.std.proofs.lemmas.Bool.{both_ways}
use Rattle.components.specs.declared.path.Place.TheVariants.{Placed}
use Rattle.components.specs.Graph.{rows}
use Rattle.components.specs.Search.{search_of}
use Rattle.components.proofs.Steps.{begin_new, begin_old}
use Rattle.components.proofs.searching.search_from.Goals as goal
use Rattle.components.proofs.searching.search_from.Goals.{then-is_new+in_ok-enter, else-is_new}

pub loop-first-init : goal.loop-first-init
loop-first-init c =
    let t = rows c.args.edges.now in
    let s = search_of c.args.search.now in
    let places = ap (λ l. slice_index_or l c.args.node Placed) c.deref.ensures.value in
    elim c.if-is_new.branch [
      | then-is_new+in_ok-enter w ↦ begin_new t s c.args.node c.requires.sound (search_of c.if-is_new.search) c.requires.begin (sym places ∙ c.is_new.ensures.0 w.if-is_new.true) (ap search_of w.search-is ∙ w.in_ok-enter.ensures)
      | else-is_new w ↦ begin_old t s c.args.node c.requires.sound (search_of c.if-is_new.search) (λ is. both_ways _ w.if-is_new.false (c.is_new.ensures.1 (places ∙ is))) (ap search_of w.search-is)
    ]
