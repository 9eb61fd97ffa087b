use Rattle.std.proofs.Common.{◌≡◌, ◌++◌, drop, map}
use Rattle.value_flows.specs.View.{act_of}
use Rattle.flow_batches.specs.Called.{called_by}
use Rattle.flow_batches.proofs.calls.calls_of.Given as goal

abbrev pub invariant-loop-act : goal.invariant-loop-act
invariant-loop-act l = l.calls.items ++ called_by (map act_of (drop l.act-index l.func.body.items)) ≡ called_by (map act_of l.func.body.items)
