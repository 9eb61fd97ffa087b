use Rattle.std.proofs.Common.{◌≡◌, drop}
use Rattle.names.specs.Scope.{scope_of}
use Rattle.signatures.proofs.signatures.add_constant_names.Given as goal
use Rattle.signatures.specs.Signatures.{with_constant_names}

abbrev pub invariant-loop-name : goal.invariant-loop-name
invariant-loop-name l = with_constant_names l.text (scope_of l.fn.scope) l.names ≡ with_constant_names l.text (scope_of l.scope) (drop l.name-index l.names)
