use Rattle.std.proofs.Common.{◌≡◌, drop}
use Rattle.value_flows.specs.View.{vals_of, program_of}
use Rattle.flow_batches.specs.Tested.{each_stands}
use Rattle.flow_batches.proofs.standing.+values.Given as goal

abbrev pub invariant-each_stands-loop-v : goal.invariant-each_stands-loop-v
invariant-each_stands-loop-v l = each_stands (program_of l.program) (vals_of (drop l.v-index l.vs)) ≡ each_stands (program_of l.program) (vals_of l.vs)
