use Rattle.std.proofs.Common.{◌≡◌, ◌++◌, drop}
use Rattle.typed.specs.View.{sts_of}
use Rattle.call_order.specs.Lists.{called_by_all}
use Rattle.call_order.proofs.calls.+statements.Given as goal

abbrev pub invariant-add_stmts-loop-s : goal.invariant-add_stmts-loop-s
invariant-add_stmts-loop-s l = l.calls.items ++ called_by_all (sts_of (drop l.s-index l.ss)) ≡ l.fn.calls.items ++ called_by_all (sts_of l.ss)
