use Rattle.std.proofs.Common.{◌≡◌, ◌++◌, replicate}
use Rattle.codegen.proofs.program.own.Given as goal

abbrev pub invariant-places : goal.invariant-places
invariant-places l = l.fn.owners.items ++ replicate l.places l.number ≡ l.owners.items ++ replicate l.left l.number

abbrev pub decreases-places : goal.decreases-places
decreases-places l = l.left
