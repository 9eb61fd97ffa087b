use Rattle.std.proofs.Common.{◌≡◌, drop}
use Rattle.syntax.specs.Statements.{value_specs_of}
use Rattle.names.specs.Scope.{scope_of}
use Rattle.signatures.proofs.signatures.add_constants.Given as goal
use Rattle.signatures.specs.Signatures.{with_constants}

abbrev pub invariant-loop-spec : goal.invariant-loop-spec
invariant-loop-spec l = with_constants l.text (scope_of l.fn.scope) (value_specs_of l.specs) ≡ with_constants l.text (scope_of l.scope) (value_specs_of (drop l.spec-index l.specs))
