use Rattle.std.proofs.Common.{◌≡◌, ◌++◌, drop}
use Rattle.names.specs.Scope.{scope_of}
use Rattle.simple_statements.proofs.declaring.all_new_wanted.Given as goal
use Rattle.simple_statements.specs.SimpleStatements.{all_new_wanted}

abbrev pub invariant-loop-name : goal.invariant-loop-name
invariant-loop-name l = all_new_wanted l.text (scope_of l.scope) l.names ≡ l.all.items ++ all_new_wanted l.text (scope_of l.scope) (drop l.name-index l.names)
