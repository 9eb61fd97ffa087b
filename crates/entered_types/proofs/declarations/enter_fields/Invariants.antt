use Rattle.std.proofs.Common.{◌≡◌, drop}
use Rattle.syntax.specs.Declarations.{fields_of}
use Rattle.names.specs.Scope.{scope_of}
use Rattle.entered_types.specs.Entered.{entered_fields}
use Rattle.entered_types.proofs.declarations.enter_fields.Given as goal

abbrev pub invariant-loop-field : goal.invariant-loop-field
invariant-loop-field l = entered_fields l.text (scope_of l.fn.scope) (fields_of l.fields) ≡ entered_fields l.text (scope_of l.scope) (fields_of (drop l.field-index l.fields))
