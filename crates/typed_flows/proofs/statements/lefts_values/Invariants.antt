use Rattle.std.proofs.Common.{◌≡◌, ◌++◌, drop, map}
use Rattle.typed.specs.View.{left_of, program_of}
use Rattle.value_flows.specs.View.{val_of}
use Rattle.typed_flows.specs.Flows.{lefts_values}
use Rattle.typed_flows.proofs.statements.lefts_values.Given as goal

abbrev pub invariant-loop-left : goal.invariant-loop-left
invariant-loop-left l =
    map val_of l.all.items ++ lefts_values (program_of l.context.program.now) (map left_of (drop l.left-index l.lefts))
    ≡ lefts_values (program_of l.context.program.now) (map left_of l.lefts)
