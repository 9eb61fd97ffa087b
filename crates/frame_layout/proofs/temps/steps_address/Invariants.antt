use Rattle.std.proofs.Common.{◌≡◌, drop}
use Rattle.typed.specs.View.{steps_of}
use Rattle.frames.specs.Frames.{steps_far}
use Rattle.frame_layout.proofs.temps.steps_address.Given as goal

abbrev pub invariant-loop-step : goal.invariant-loop-step
invariant-loop-step l = steps_far (steps_of l.steps) ≡ steps_far (steps_of (drop l.step-index l.steps))
