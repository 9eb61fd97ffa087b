use Rattle.std.proofs.Common.{drop, [], ◌∷◌}
use Rattle.type_faults.proofs.Leasts.{Kept}
use Rattle.simple_statements.proofs.declaring.twice_fault.Given as goal
use Rattle.simple_statements.specs.SimpleFaults.{TwiceFails}

abbrev pub invariant-loop-name : goal.invariant-loop-name
invariant-loop-name l = Kept (TwiceFails l.text ([] ∷ []) l.names) (TwiceFails l.text l.noted (drop l.name-index l.names)) l.fault
