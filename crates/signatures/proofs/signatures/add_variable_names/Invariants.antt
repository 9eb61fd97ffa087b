use Rattle.std.proofs.Common.{◌≡◌, drop}
use Rattle.names.specs.Scope.{scope_of}
use Rattle.signatures.proofs.signatures.add_variable_names.Given as goal
use Rattle.signatures.specs.Signatures.{with_variable_names}

abbrev pub invariant-loop-name : goal.invariant-loop-name
invariant-loop-name l = with_variable_names l.text (scope_of l.fn.scope) l.names ≡ with_variable_names l.text (scope_of l.scope) (drop l.name-index l.names)
