use Rattle.std.proofs.Common.{◌≡◌, ◌+◌, drop}
use Rattle.typed_syntax.specs.Syntax.{type_named}
use Rattle.typed.specs.View.{elements_of, exs_of, program_of, steps_of}
use Rattle.program_code.specs.Code.{elements_size, exs_size, steps_size}
use Rattle.expression_code.proofs.lengths.+values.Given as goal

abbrev pub invariant-row_len-loop-e : goal.invariant-row_len-loop-e
invariant-row_len-loop-e l = l.total + exs_size (program_of l.program) (exs_of (drop l.e-index l.es)) ≡ exs_size (program_of l.program) (exs_of l.es)

abbrev pub invariant-steps_len-loop-step : goal.invariant-steps_len-loop-step
invariant-steps_len-loop-step l = steps_size (program_of l.program) (steps_of l.steps) 0 ≡ l.total + steps_size (program_of l.program) (steps_of (drop l.step-index l.steps)) 0

abbrev pub invariant-elements_len-loop-i : goal.invariant-elements_len-loop-i
invariant-elements_len-loop-i l =
    elements_size (program_of l.program) (type_named (program_of l.program) l.id.0) l.is_ordered (elements_of l.es)
    ≡ l.total + elements_size (program_of l.program) (type_named (program_of l.program) l.id.0) l.is_ordered (elements_of (drop l.i l.es))
