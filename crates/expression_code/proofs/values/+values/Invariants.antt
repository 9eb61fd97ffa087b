use Rattle.std.proofs.Common.{◌≡◌, ◌++◌, drop, length, true, false}
use Rattle.typed_syntax.specs.Syntax.{type_named}
use Rattle.typed.specs.View.{elements_of, exs_of, program_of, steps_of}
use Rattle.program_code.specs.Code.{elements_code, exs_code, steps_code}
use Rattle.expression_code.specs.Frame.{slots_in}
use Rattle.expression_code.specs.Temps.{ElementsFitIn, ExsFitIn, StepsFitIn}
use Rattle.expression_code.proofs.values.+values.Given as goal

abbrev pub invariant-emit_row-loop-e : goal.invariant-emit_row-loop-e
invariant-emit_row-loop-e l =
    (l.fn.code.items ++ exs_code (program_of l.program) (slots_in l.program l.frame) (exs_of l.es) l.h (length l.fn.code.items)
    ≡ l.code.items ++ exs_code (program_of l.program) (slots_in l.program l.frame) (exs_of (drop l.e-index l.es)) l.next (length l.code.items))
    × ExsFitIn (program_of l.program) (slots_in l.program l.frame) l.frame.sites l.next (exs_of (drop l.e-index l.es))

abbrev pub invariant-emit_steps-loop-step : goal.invariant-emit_steps-loop-step
invariant-emit_steps-loop-step l =
    (l.fn.code.items ++ steps_code (program_of l.program) (slots_in l.program l.frame) (steps_of l.steps) l.h (length l.fn.code.items)
    ≡ l.code.items ++ steps_code (program_of l.program) (slots_in l.program l.frame) (steps_of (drop l.step-index l.steps)) l.next (length l.code.items))
    × StepsFitIn (program_of l.program) (slots_in l.program l.frame) l.frame.sites l.next (steps_of (drop l.step-index l.steps))

abbrev pub invariant-emit_ordered-loop-i : goal.invariant-emit_ordered-loop-i
invariant-emit_ordered-loop-i l =
    (l.fn.code.items ++ elements_code (program_of l.program) (slots_in l.program l.frame) (type_named (program_of l.program) l.id.0) true (elements_of l.es) l.h (length l.fn.code.items)
    ≡ l.code.items ++ elements_code (program_of l.program) (slots_in l.program l.frame) (type_named (program_of l.program) l.id.0) true (elements_of (drop l.i l.es)) l.h (length l.code.items))
    × ElementsFitIn (program_of l.program) (slots_in l.program l.frame) l.frame.sites l.h (type_named (program_of l.program) l.id.0) true (elements_of (drop l.i l.es))

abbrev pub invariant-emit_moved-loop-element : goal.invariant-emit_moved-loop-element
invariant-emit_moved-loop-element l =
    (l.fn.code.items ++ elements_code (program_of l.program) (slots_in l.program l.frame) (type_named (program_of l.program) l.id.0) false (elements_of l.es) l.h (length l.fn.code.items)
    ≡ l.code.items ++ elements_code (program_of l.program) (slots_in l.program l.frame) (type_named (program_of l.program) l.id.0) false (elements_of (drop l.element-index l.es)) l.h (length l.code.items))
    × ElementsFitIn (program_of l.program) (slots_in l.program l.frame) l.frame.sites l.h (type_named (program_of l.program) l.id.0) false (elements_of (drop l.element-index l.es))
