use Rattle.std.proofs.Common.{◌≡◌, ◌++◌, drop, map}
use Rattle.components.specs.Graph.{rows}
use Rattle.typed.specs.Trees.{trees}
use Rattle.typed.specs.View.{func_of}
use Rattle.call_order.specs.Lists.{call_lists}
use Rattle.call_order.proofs.calls.all_calls.Given as goal

abbrev pub invariant-loop-func : goal.invariant-loop-func
invariant-loop-func l = rows l.all.items ++ call_lists (map (func_of (trees l.program.types)) (drop l.func-index l.funcs)) ≡ call_lists (map (func_of (trees l.program.types)) l.funcs)
