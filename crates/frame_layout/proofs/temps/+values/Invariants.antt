use Rattle.std.proofs.Common.{◌≡◌, ◌+◌, max, drop}
use Rattle.typed_syntax.specs.Syntax.{type_named}
use Rattle.typed.specs.View.{elements_of, exs_of, program_of, steps_of}
use Rattle.frames.specs.Frames.{elements_need, need_all, steps_need}
use Rattle.frame_layout.proofs.temps.+values.Given as goal

abbrev pub invariant-steps_temps-loop-step : goal.invariant-steps_temps-loop-step
invariant-steps_temps-loop-step l = steps_need (program_of l.program) (steps_of l.steps) l.behind ≡ max l.temps (l.kept + steps_need (program_of l.program) (steps_of (drop l.step-index l.steps)) l.behind)

abbrev pub invariant-elements_temps-loop-element : goal.invariant-elements_temps-loop-element
invariant-elements_temps-loop-element l =
    elements_need (program_of l.program) (type_named (program_of l.program) l.type_id.0) l.in_order (elements_of l.elements)
    ≡ max l.temps (elements_need (program_of l.program) (type_named (program_of l.program) l.type_id.0) l.in_order (elements_of (drop l.element-index l.elements)))

abbrev pub invariant-row_temps-loop-e : goal.invariant-row_temps-loop-e
invariant-row_temps-loop-e l = need_all (program_of l.program) (exs_of l.es) ≡ max l.temps (l.kept + need_all (program_of l.program) (exs_of (drop l.e-index l.es)))
