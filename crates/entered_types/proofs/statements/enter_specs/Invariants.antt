use Rattle.std.proofs.Common.{◌≡◌, drop}
use Rattle.syntax.specs.Statements.{value_specs_of}
use Rattle.names.specs.Scope.{scope_of}
use Rattle.entered_types.specs.Entered.{entered_specs}
use Rattle.entered_types.proofs.statements.enter_specs.Given as goal

abbrev pub invariant-loop-spec : goal.invariant-loop-spec
invariant-loop-spec l = entered_specs l.text (scope_of l.fn.scope) (value_specs_of l.specs) ≡ entered_specs l.text (scope_of l.scope) (value_specs_of (drop l.spec-index l.specs))
