-- No struct is told.
use Rattle.std.proofs.Common.{◌≡◌, None, replicate}
use Rattle.typed.proofs.table.TypeTable.new.Given as goal

abbrev pub invariant-loop : goal.invariant-loop
invariant-loop l = l.untold.items ≡ replicate l.counter None
