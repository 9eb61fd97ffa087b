use Rattle.std.proofs.Common.{◌≡◌, drop}
use Rattle.syntax.specs.Statements.{value_specs_of}
use Rattle.names.specs.Scope.{scope_of}
use Rattle.signatures.proofs.signatures.add_package_variables.Given as goal
use Rattle.signatures.specs.Signatures.{with_package_variables}

abbrev pub invariant-loop-spec : goal.invariant-loop-spec
invariant-loop-spec l = with_package_variables l.text (scope_of l.fn.scope) (value_specs_of l.specs) ≡ with_package_variables l.text (scope_of l.scope) (value_specs_of (drop l.spec-index l.specs))
