use Rattle.std.proofs.Common.{◌≡◌, ◌+◌, drop}
use Rattle.typed.specs.View.{steps_of}
use Rattle.program_code.specs.Code.{index_count}
use Rattle.expression_code.proofs.parts.index_count.Given as goal

abbrev pub invariant-loop-step : goal.invariant-loop-step
invariant-loop-step l = index_count (steps_of l.steps) ≡ l.count + index_count (steps_of (drop l.step-index l.steps))
