use Rattle.std.proofs.Common.{◌≡◌, drop}
use Rattle.typed_syntax.specs.Paths.{type_at}
use Rattle.typed_syntax.specs.Syntax.{path_of, type_named}
use Rattle.typed.specs.View.{program_of, steps_of}
use Rattle.typed_flows.proofs.context.Context.behind.Given as goal

abbrev pub invariant-loop-step : goal.invariant-loop-step
invariant-loop-step l =
    type_at (type_named (program_of l.self.program.now) l.part.0) (path_of (steps_of (drop l.step-index l.steps)))
    ≡ type_at (type_named (program_of l.self.program.now) l.fn.id.0) (path_of (steps_of l.steps))
