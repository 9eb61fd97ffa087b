use Rattle.std.proofs.Common.{List, ap, ◌∙◌, arith}
use Rattle.std.proofs.lemmas.Result.{on_ok_weaker}
use Rattle.components.specs.declared.path.Edge.{Edge}
use Rattle.components.specs.Graph.{rows}
use Rattle.components.specs.Search.{search_of, closed}
use Rattle.components.proofs.Whole.{taken}
use Rattle.components.proofs.Steps.{step_close, first_inside, nodes_within}
use Rattle.components.proofs.searching.step.Goals as goal

pub follow-requires : goal.follow-requires
follow-requires c = taken (rows c.args.edges.now) (search_of c.args.search.now) c.requires.sound c.requires.last.0 c.args.first c.requires.last.1 c.next_edge.new.ahead.items c.in-Some.edge c.in-Some.ensures.0 c.in-Some.ensures.1

pub close-requires-clause-first : goal.close-requires-clause-first
close-requires-clause-first c =
    let l = first_inside (rows c.args.edges.now) (search_of c.args.search.now) c.requires.sound c.requires.last.0 c.args.first c.requires.last.1 in
    omega (arith, l)

pub close-requires-clause-nodes : goal.close-requires-clause-nodes
close-requires-clause-nodes c = nodes_within (rows c.args.edges.now) (search_of c.args.search.now) c.requires.sound

pub returns-in-None : goal.returns-in-None
returns-in-None c =
    let t = rows c.args.edges.now in
    let s = search_of c.args.search.now in
    let rest = c.requires.last.0 in
    let first = c.args.first in
    on_ok_weaker c.close.result (λ is. step_close t s c.requires.sound rest first c.requires.last.1 (search_of c.close.new.search) c.in-None.ensures.1 (is rest c.requires.last.1 ∙ ap (λ (ahead : List Edge). closed (record s { ahead = ahead }) rest first) c.in-None.ensures.0)) c.close.ensures
