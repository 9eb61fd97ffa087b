use Rattle.std.proofs.Common.{◌≡◌, ◌++◌, drop}
use Rattle.names.specs.Scope.{scope_of}
use Rattle.simple_statements.proofs.declaring.new_slots.Given as goal
use Rattle.simple_statements.specs.SimpleStatements.{new_slots}

abbrev pub invariant-loop-slot : goal.invariant-loop-slot
invariant-loop-slot l = new_slots l.text (scope_of l.scope) l.slots ≡ l.declared.items ++ new_slots l.text (scope_of l.scope) (drop l.slot-index l.slots)
