use Rattle.std.proofs.Common.{take}
use Rattle.value_flows.specs.View.{program_of}
use Rattle.param_tags.specs.Rounds.{Joins, IsRound}
use Rattle.param_tags.proofs.rounds.round.Given as goal

abbrev pub invariant-loop-hold : goal.invariant-loop-hold
invariant-loop-hold l = record {
  joins : Joins (program_of l.program) (take l.hold-index l.holds) l.fn.placed l.placed;
  round : IsRound (program_of l.program) (take l.hold-index l.holds) l.fn.placed l.placed l.joined;
}
