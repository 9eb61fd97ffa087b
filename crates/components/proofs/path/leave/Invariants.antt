use Rattle.std.proofs.Common.{◌≡◌, ◌++◌, take}
use Rattle.components.specs.Search.{leaving}
use Rattle.components.proofs.path.leave.Given as goal

abbrev pub invariant-loop-to : goal.invariant-loop-to
invariant-loop-to l = l.ahead.items ≡ l.fn.ahead.items ++ leaving l.from (take l.to-index l.row)
