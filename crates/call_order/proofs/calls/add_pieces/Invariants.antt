use Rattle.std.proofs.Common.{◌≡◌, ◌++◌, drop, map}
use Rattle.typed.specs.View.{piece_of}
use Rattle.call_order.specs.Lists.{called_in_pieces}
use Rattle.call_order.proofs.calls.add_pieces.Given as goal

abbrev pub invariant-loop-p : goal.invariant-loop-p
invariant-loop-p l = l.calls.items ++ called_in_pieces (map piece_of (drop l.p-index l.ps)) ≡ l.fn.calls.items ++ called_in_pieces (map piece_of l.ps)
