use Rattle.std.proofs.Common.{List, sym, subst, refl}
use Rattle.std.specs.List.{Contains}
use Rattle.param_tags.specs.declared.walks.Walked.{Walked}
use Rattle.param_tags.specs.Walks.{AddsWalk}
use Rattle.param_tags.proofs.Adds.{walk_there, walk_pushed}
use Rattle.param_tags.proofs.walks.add_walk.Goals as goal

pub returns-then-has_walk : goal.returns-then-has_walk
returns-then-has_walk c =
    let there = c.has_walk.ensures c.if-has_walk.true in
    walk_there c.args.graph.now.edges.items c.args.root c.args.walks.now.items (there.0, subst (λ (xs : List Walked). Contains xs there.0) c.deref.ensures.value there.1, there.2)

pub returns : goal.returns
returns c =
    let old = c.args.walks.now.items in
    let w : Walked = record { root = c.args.root; levels = c.in_ok-levels.levels } in
    subst (λ (xs : List Walked). AddsWalk c.args.graph.now.edges.items c.args.root old xs) (sym c.in_ok-push.ensures.items) (walk_pushed c.args.graph.now.edges.items c.args.root old w refl c.in_ok-levels.ensures)
