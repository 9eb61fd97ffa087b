use Rattle.std.proofs.Common.{◌≡◌, map, take}
use Rattle.components.specs.Graph.{rows}
use Rattle.value_flows.specs.View.{func_of}
use Rattle.flow_batches.specs.Called.{call_lists}
use Rattle.flow_batches.proofs.calls.all_calls.Given as goal

abbrev pub invariant-loop-func : goal.invariant-loop-func
invariant-loop-func l = rows l.all.items ≡ call_lists (map func_of (take l.func-index l.program.funcs.items))
