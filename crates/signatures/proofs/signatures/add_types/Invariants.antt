use Rattle.std.proofs.Common.{◌≡◌, drop}
use Rattle.syntax.specs.Declarations.{type_specs_of}
use Rattle.names.specs.Scope.{scope_of}
use Rattle.signatures.proofs.signatures.add_types.Given as goal
use Rattle.signatures.specs.Signatures.{with_types}

abbrev pub invariant-loop-spec : goal.invariant-loop-spec
invariant-loop-spec l = with_types l.text (scope_of l.fn.scope) (type_specs_of l.specs) ≡ with_types l.text (scope_of l.scope) (type_specs_of (drop l.spec-index l.specs))
