use Rattle.std.proofs.Common.{◌≡◌, drop}
use Rattle.typed_syntax.specs.Paths.{type_at}
use Rattle.typed_syntax.specs.Syntax.{path_of, type_named}
use Rattle.typed.specs.View.{program_of, steps_of}
use Rattle.expression_code.proofs.parts.end_type.Given as goal

abbrev pub invariant-loop-step : goal.invariant-loop-step
invariant-loop-step l = type_at (type_named (program_of l.program) l.fn.id.0) (path_of (steps_of l.steps)) ≡ type_at (type_named (program_of l.program) l.part.0) (path_of (steps_of (drop l.step-index l.steps)))
