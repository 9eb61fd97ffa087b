use Rattle.std.proofs.Common.{◌≡◌, drop}
use Rattle.names.specs.Scope.{scope_of}
use Rattle.simple_statements.proofs.declaring.declare_variables.Given as goal
use Rattle.simple_statements.specs.SimpleStatements.{with_variables}

abbrev pub invariant-loop-slot : goal.invariant-loop-slot
invariant-loop-slot l = with_variables l.text (scope_of l.fn.scope) l.slots ≡ with_variables l.text (scope_of l.scope) (drop l.slot-index l.slots)
