use Rattle.std.proofs.Common.{◌≡◌, ◌++◌, drop}
use Rattle.value_flows.specs.View.{vals_of}
use Rattle.flow_batches.specs.Called.{called_each}
use Rattle.flow_batches.proofs.calls.+values.Given as goal

abbrev pub invariant-add_row-loop-v : goal.invariant-add_row-loop-v
invariant-add_row-loop-v l = l.calls.items ++ called_each (vals_of (drop l.v-index l.vs)) ≡ l.fn.calls.items ++ called_each (vals_of l.vs)
