use Rattle.std.proofs.Common.{◌≡◌, max, drop}
use Rattle.typed.specs.View.{elements_of, exs_of, program_of, steps_of}
use Rattle.frames.specs.Frames.{elements_reach, reach_all, steps_reach}
use Rattle.frame_layout.proofs.outgoing.+values.Given as goal

abbrev pub invariant-steps_reach-loop-step : goal.invariant-steps_reach-loop-step
invariant-steps_reach-loop-step l = steps_reach (program_of l.program) (steps_of l.steps) 0 ≡ max l.words (steps_reach (program_of l.program) (steps_of (drop l.step-index l.steps)) 0)

abbrev pub invariant-elements_reach-loop-element : goal.invariant-elements_reach-loop-element
invariant-elements_reach-loop-element l = elements_reach (program_of l.program) (elements_of l.elements) ≡ max l.words (elements_reach (program_of l.program) (elements_of (drop l.element-index l.elements)))

abbrev pub invariant-row_reach-loop-e : goal.invariant-row_reach-loop-e
invariant-row_reach-loop-e l = reach_all (program_of l.program) (exs_of l.es) ≡ max l.words (reach_all (program_of l.program) (exs_of (drop l.e-index l.es)))
