use Rattle.std.proofs.Common.{inl, inr}
use Rattle.value_flows.specs.View.{program_of}
use Rattle.param_tags.proofs.Joined.{one_more}
use Rattle.param_tags.proofs.rounds.round.Goals as goal
use Rattle.param_tags.proofs.rounds.round.Goals.{then-look, else-look}

pub loop-hold-preserved : goal.loop-hold-preserved
loop-hold-preserved c =
    let both = one_more (program_of c.args.program.now) c.args.holds.now c.loop-hold.hold-index _ c.args.placed.now c.loop-hold.placed c.look.new.placed c.loop-hold.joined c.look.result c.if-look.joined c.loop-hold-test.true c.loop-hold.invariant.joins c.loop-hold.invariant.round c.look.ensures.joins c.look.ensures.round (elim c.if-look.branch [ then-look w ↦ inl (w.if-look.true, w.joined-is) | else-look w ↦ inr (w.if-look.false, w.joined-is) ]) in
    record { joins = both.0; round = both.1 }
