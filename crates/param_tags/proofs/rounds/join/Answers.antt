use Rattle.std.proofs.Common.{Bool, subst}
use Rattle.value_flows.specs.View.{program_of}
use Rattle.param_tags.specs.Rounds.{IsRound}
use Rattle.param_tags.proofs.Joined.{joins_again}
use Rattle.param_tags.proofs.rounds.join.Goals as goal

pub loop-preserved : goal.loop-preserved
loop-preserved c = joins_again (program_of c.args.program.now) c.args.holds.now c.args.placed.now c.loop.placed c.round.new.placed c.loop.invariant c.round.ensures.joins

pub returns : goal.returns
returns c =
    let done = subst (λ (b : Bool). IsRound (program_of c.args.program.now) c.args.holds.now c.loop.placed c.round.new.placed b) c.loop-test.false c.round.ensures.round in
    record {
      joins = joins_again (program_of c.args.program.now) c.args.holds.now c.args.placed.now c.loop.placed c.round.new.placed c.loop.invariant c.round.ensures.joins;
      keeps = done.1;
    }
