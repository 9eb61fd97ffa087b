use Rattle.std.proofs.Common.{◌≡◌, drop, map}
use Rattle.value_flows.specs.View.{func_of, program_of}
use Rattle.flow_batches.specs.Form.{funcs_fit, is_formed}
use Rattle.flow_batches.proofs.form.is_formed.Given as goal

abbrev pub invariant-loop-f : goal.invariant-loop-f
invariant-loop-f l = funcs_fit (program_of l.program) l.f (map func_of (drop l.f l.program.funcs.items)) ≡ is_formed (program_of l.program)
