use Rattle.std.proofs.Common.{◌≡◌, ◌≤◌, ◌++◌, drop}
use Rattle.typed_syntax.specs.Types.{width}
use Rattle.typed_syntax.specs.Syntax.{type_named}
use Rattle.typed.specs.View.{program_of, steps_of}
use Rattle.expression_code.specs.Frame.{slots_in}
use Rattle.expression_code.specs.Temps.{IndicesFit}
use Rattle.program_code.specs.Code.{index_code, steps_above}
use Rattle.expression_code.proofs.reaching.emit_indices.Given as goal

abbrev pub invariant-loop-step : goal.invariant-loop-step
invariant-loop-step l =
    (l.fn.code.items ++ index_code (slots_in l.program l.frame) (type_named (program_of l.program) l.fn.id.0) (steps_of l.steps) l.first l.at
    ≡ l.code.items ++ index_code (slots_in l.program l.frame) (type_named (program_of l.program) l.part.0) (steps_of (drop l.step-index l.steps)) l.next l.at)
    × IndicesFit (type_named (program_of l.program) l.part.0) (steps_of (drop l.step-index l.steps))
    × (width (type_named (program_of l.program) l.part.0) ≤ 65535)
    × (steps_above (steps_of (drop l.step-index l.steps)) l.next ≤ l.frame.temps)
