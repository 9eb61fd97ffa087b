use Rattle.std.proofs.Common.{◌≡◌, drop}
use Rattle.syntax.specs.Declarations.{type_specs_of}
use Rattle.names.specs.Scope.{scope_of}
use Rattle.entered_types.specs.Entered.{entered_type_specs}
use Rattle.entered_types.proofs.declarations.enter_type_specs.Given as goal

abbrev pub invariant-loop-spec : goal.invariant-loop-spec
invariant-loop-spec l = entered_type_specs l.text (scope_of l.fn.scope) (type_specs_of l.specs) ≡ entered_type_specs l.text (scope_of l.scope) (type_specs_of (drop l.spec-index l.specs))
