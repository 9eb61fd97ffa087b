use Rattle.std.proofs.Common.{◌≡◌, ◌++◌, drop, map}
use Rattle.typed.specs.View.{program_of, sts_of}
use Rattle.value_flows.specs.View.{act_of}
use Rattle.typed_flows.specs.Flows.{all_acts}
use Rattle.typed_flows.proofs.statements.+statements.Given as goal

abbrev pub invariant-add_stmts-loop-s : goal.invariant-add_stmts-loop-s
invariant-add_stmts-loop-s l =
    map act_of l.acts.items ++ all_acts (program_of l.context.program.now) l.returned (sts_of (drop l.s-index l.ss))
    ≡ map act_of l.fn.acts.items ++ all_acts (program_of l.context.program.now) l.returned (sts_of l.ss)
