use Rattle.deref_walk.specs.declared.loc.Loc.TheVariants as loc
use Rattle.param_tags.specs.declared.walks.Hold.{Hold}
use Rattle.param_tags.proofs.Steps.{adds_more, held_at}
use Rattle.param_tags.proofs.paths.add_paths.Goals as goal

pub loop-hold-preserved : goal.loop-hold-preserved
loop-hold-preserved c =
    let d : Hold = record { root = loc.Site (record { 0 = 0 }); site = record { 0 = 0 } } in
    let holds = c.args.holds.now in
    let i = c.loop-hold.hold-index in
    record {
      size = cc;
      adds = λ edges walked are. adds_more edges c.args.placed.now holds i d c.args.paths.now c.loop-hold.paths c.add_path.new.paths c.loop-hold-test.true (c.loop-hold.invariant.adds edges walked are) (c.in_ok-add_path.ensures.paths edges walked (held_at edges holds i d c.loop-hold-test.true are));
    }
