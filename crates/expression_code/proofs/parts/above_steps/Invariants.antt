use Rattle.std.proofs.Common.{◌≡◌, drop}
use Rattle.typed.specs.View.{steps_of}
use Rattle.program_code.specs.Code.{steps_above}
use Rattle.expression_code.proofs.parts.above_steps.Given as goal

abbrev pub invariant-loop-step : goal.invariant-loop-step
invariant-loop-step l = steps_above (steps_of l.steps) l.h ≡ steps_above (steps_of (drop l.step-index l.steps)) l.above
