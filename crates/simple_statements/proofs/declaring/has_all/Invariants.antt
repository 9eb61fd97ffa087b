use Rattle.std.proofs.Common.{◌≡◌, drop}
use Rattle.std.specs.Prelude.{◌&&◌}
use Rattle.names.specs.Scope.{scope_of}
use Rattle.simple_statements.proofs.declaring.has_all.Given as goal
use Rattle.simple_statements.specs.SimpleStatements.{has_all}

abbrev pub invariant-loop-name : goal.invariant-loop-name
invariant-loop-name l = has_all l.text (scope_of l.scope) l.names ≡ (l.all && has_all l.text (scope_of l.scope) (drop l.name-index l.names))
