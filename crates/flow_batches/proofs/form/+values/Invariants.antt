use Rattle.std.proofs.Common.{◌≡◌, drop}
use Rattle.value_flows.specs.View.{vals_of, program_of}
use Rattle.flow_batches.specs.Form.{each_fits}
use Rattle.flow_batches.proofs.form.+values.Given as goal

abbrev pub invariant-each_fits-loop-v : goal.invariant-each_fits-loop-v
invariant-each_fits-loop-v l = each_fits (program_of l.program) l.f (vals_of (drop l.v-index l.vs)) ≡ each_fits (program_of l.program) l.f (vals_of l.vs)
