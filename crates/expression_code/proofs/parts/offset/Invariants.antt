use Rattle.std.proofs.Common.{◌≡◌, ◌+◌, drop}
use Rattle.typed_syntax.specs.Paths.{offset}
use Rattle.typed_syntax.specs.Syntax.{path_of, type_named}
use Rattle.typed.specs.View.{program_of, steps_of}
use Rattle.expression_code.proofs.parts.offset.Given as goal

abbrev pub invariant-loop-step : goal.invariant-loop-step
invariant-loop-step l = offset (type_named (program_of l.program) l.fn.id.0) (path_of (steps_of l.steps)) ≡ l.words + offset (type_named (program_of l.program) l.part.0) (path_of (steps_of (drop l.step-index l.steps)))
