use Rattle.std.proofs.Common.{◌≡◌, drop}
use Rattle.frames.specs.Frames.{steps_far}
use Rattle.typed.specs.View.{steps_of}
use Rattle.expression_code.proofs.parts.is_far.Given as goal

abbrev pub invariant-loop-step : goal.invariant-loop-step
invariant-loop-step l = steps_far (steps_of l.steps) ≡ steps_far (steps_of (drop l.step-index l.steps))
