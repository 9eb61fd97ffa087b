use Rattle.std.proofs.Common.{◌≡◌, ◌++◌, drop, map}
use Rattle.typed.specs.View.{left_of}
use Rattle.call_order.specs.Lists.{called_in_lefts}
use Rattle.call_order.proofs.calls.add_lefts.Given as goal

abbrev pub invariant-loop-left : goal.invariant-loop-left
invariant-loop-left l = l.calls.items ++ called_in_lefts (map left_of (drop l.left-index l.lefts)) ≡ l.fn.calls.items ++ called_in_lefts (map left_of l.lefts)
