use Rattle.param_tags.specs.Rounds.{Joins, on_stack}
use Rattle.value_flows.specs.View.{program_of}
use Rattle.param_tags.proofs.rounds.join.Given as goal

abbrev pub invariant-loop : goal.invariant-loop
invariant-loop l = Joins (program_of l.program) l.holds l.fn.placed l.placed

abbrev pub decreases-loop : goal.decreases-loop
decreases-loop l = on_stack l.placed
