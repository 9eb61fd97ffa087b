use Rattle.std.proofs.Common.{ℕ, List, Option, take, get_or, ◌∙◌, subst, arith}
use Rattle.std.proofs.lemmas.Option.{slice_get-get_or}
use Rattle.struct_sizes.specs.Structs.{structs_of}
use Rattle.struct_sizes.specs.Kept.{AgreeAll}
use Rattle.struct_sizes.specs.Filling.{filled}
use Rattle.components.proofs.Lists.{at_among}
use Rattle.struct_sizes.proofs.Steps.{filled_more}
use Rattle.struct_sizes.proofs.filling.fill.Goals as goal

pub fill_at-requires-clause-declared : goal.fill_at-requires-clause-declared
fill_at-requires-clause-declared c =
    let ks = c.args.nodes.now in
    let i = c.loop-node.node-index in
    c.requires.declared (get_or ks i 0) (at_among (get_or ks i 0) ks i (slice_get-get_or ks i 0 c.loop-node-test.true))

pub fill_at-requires-clause-room : goal.fill_at-requires-clause-room
fill_at-requires-clause-room c =
    let ks = c.args.nodes.now in
    let i = c.loop-node.node-index in
    let small = c.requires.declared (get_or ks i 0) (at_among (get_or ks i 0) ks i (slice_get-get_or ks i 0 c.loop-node-test.true)) in
    let room = c.requires.room in
    let long = c.loop-node.invariant.0 in
    omega (arith, small, room, long)

pub loop-node-preserved : goal.loop-node-preserved
loop-node-preserved c =
    let ss = structs_of c.args.structs.now in
    let cycles = c.args.on_cycles.now in
    let ks = c.args.nodes.now in
    let i = c.loop-node.node-index in (
      c.fill_at.auto.table ∙ c.loop-node.invariant.0,
      λ exact same. subst (λ (l : List (Option ℕ)). AgreeAll c.fill_at.new.table l) (filled_more ss cycles exact ks i c.loop-node-test.true) (c.fill_at.ensures (filled ss cycles exact (take i ks)) (c.loop-node.invariant.1 exact same)),
    )
