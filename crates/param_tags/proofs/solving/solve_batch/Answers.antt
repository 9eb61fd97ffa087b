use Rattle.std.proofs.Common.{◌≡◌, ◌<◌, ℕ, List, length, get_or, sym, subst}
use Rattle.std.proofs.lemmas.List.Elements.{Contains-get_or}
use Rattle.std.proofs.lemmas.Result.{on_ok_weaker}
use Rattle.deref_walk.specs.declared.graph.Edge.{Edge}
use Rattle.value_flows.specs.View.{program_of, tags_of}
use Rattle.escape_graph.specs.Edges.{batch_edges}
use Rattle.param_tags.specs.declared.walks.Hold.{Hold}
use Rattle.param_tags.specs.declared.walks.Walked.{Walked}
use Rattle.param_tags.specs.Walks.{AreWalked, AreHolds}
use Rattle.param_tags.specs.Rounds.{IsJoined}
use Rattle.param_tags.specs.Paths.{AddsPaths}
use Rattle.param_tags.proofs.Batches.{holds_range}
use Rattle.param_tags.proofs.Going.{all_on_ok}
use Rattle.param_tags.proofs.Steps.{keeps_paths}
use Rattle.param_tags.proofs.solving.solve_batch.Goals as goal

pub join-requires : goal.join-requires
join-requires c =
    let p = program_of c.args.program.now in
    let T = tags_of c.args.tags.now in
    let holds = c.in_ok-holds.holds.items in
    let are : AreHolds (batch_edges p T c.args.batch.now) holds = subst (λ (E : List Edge). AreHolds E holds) c.in_ok-graph.ensures.edges c.in_ok-holds.ensures in
    rw c.deref-2.ensures.value (λ k d within. subst (λ (n : ℕ). (get_or holds k d).site.0 < n) (sym c.requires.placed) (holds_range p c.args.batch.now T c.requires.fits holds are (get_or holds k d) (Contains-get_or holds k d within)))

pub add_paths-requires : goal.add_paths-requires
add_paths-requires c =
    let p = program_of c.args.program.now in
    let T = tags_of c.args.tags.now in
    let holds = c.in_ok-holds.holds.items in
    let are : AreHolds (batch_edges p T c.args.batch.now) holds = subst (λ (E : List Edge). AreHolds E holds) c.in_ok-graph.ensures.edges c.in_ok-holds.ensures in
    rw c.deref-4.ensures.value (λ k d within. subst (λ (n : ℕ). (get_or holds k d).site.0 < n) (sym c.requires.paths) (holds_range p c.args.batch.now T c.requires.fits holds are (get_or holds k d) (Contains-get_or holds k d within)))

pub returns-clause-solves : goal.returns-clause-solves
returns-clause-solves c =
    let p = program_of c.args.program.now in
    let E = batch_edges p (tags_of c.args.tags.now) c.args.batch.now in
    let holds = c.in_ok-holds.holds.items in
    let walked : AreWalked E c.deref-5.result.now = subst (λ (F : List Edge). AreWalked F c.deref-5.result.now) c.in_ok-graph.ensures.edges (subst (λ (xs : List Walked). AreWalked c.in_ok-graph.graph.edges.items xs) (sym c.deref-5.ensures.value) c.in_ok-walks.ensures) in
    all_on_ok c.set_tags.result c.set_tags.ensures.size c.set_tags.ensures.others c.set_tags.ensures.tagged (λ size others tagged. record {
      size = size;
      others = others;
      tagged = tagged E walked;
      holds = holds;
      are = subst (λ (F : List Edge). AreHolds F holds) c.in_ok-graph.ensures.edges c.in_ok-holds.ensures;
      joined = subst (λ (xs : List Hold). IsJoined p xs c.args.placed.now c.join.new.placed) c.deref-2.ensures.value c.join.ensures;
    })

pub returns-clause-paths : goal.returns-clause-paths
returns-clause-paths c =
    let p = program_of c.args.program.now in
    let E = batch_edges p (tags_of c.args.tags.now) c.args.batch.now in
    let holds = c.in_ok-holds.holds.items in
    let walked : AreWalked E c.deref-3.result.now = subst (λ (F : List Edge). AreWalked F c.deref-3.result.now) c.in_ok-graph.ensures.edges (subst (λ (xs : List Walked). AreWalked c.in_ok-graph.graph.edges.items xs) (sym c.deref-3.ensures.value) c.in_ok-walks.ensures) in
    let are : AreHolds E c.deref-4.result.now = subst (λ (F : List Edge). AreHolds F c.deref-4.result.now) c.in_ok-graph.ensures.edges (subst (λ (xs : List Hold). AreHolds c.in_ok-graph.graph.edges.items xs) (sym c.deref-4.ensures.value) c.in_ok-holds.ensures) in
    let joined : IsJoined p holds c.args.placed.now c.join.new.placed = subst (λ (xs : List Hold). IsJoined p xs c.args.placed.now c.join.new.placed) c.deref-2.ensures.value c.join.ensures in
    let adds : AddsPaths E c.join.new.placed holds c.args.paths.now c.add_paths.new.paths = subst (λ (xs : List Hold). AddsPaths E c.join.new.placed xs c.args.paths.now c.add_paths.new.paths) c.deref-4.ensures.value (c.in_ok-add_paths.ensures.paths E walked are) in
    on_ok_weaker c.set_tags.result (λ (size : length (tags_of c.set_tags.new.tags) ≡ length (tags_of c.args.tags.now)). keeps_paths p E holds c.args.placed.now c.join.new.placed c.args.paths.now c.add_paths.new.paths joined.joins adds) c.set_tags.ensures.size
