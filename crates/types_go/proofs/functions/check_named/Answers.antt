use Rattle.std.proofs.Common.{◌≡◌, ℕ, length, Option, ap, ◌∙◌}
use Rattle.std.specs.Option.{option_map}
use Rattle.typed.specs.View.{value_of}
use Rattle.typed_syntax.specs.Value.{Value}
use Rattle.constants.specs.declared.constant.Fixed.{Fixed}
use Rattle.base.specs.declared.value_type.ValueType.{ValueType}
use Rattle.names.specs.Scope.{scope_of, known}
use Rattle.types_go.specs.Functions.{type_or_int, begins}
use Rattle.types_go.proofs.functions.check_named.Goals as goal

pub returns-clause-global : goal.returns-clause-global
returns-clause-global c =
    let s = scope_of c.args.scope.now in
    let t = type_or_int (known s c.args.number.0) in
    let initial1 = c.in_ok-initial.initial in
    let type_is : c.type_or_int-value_type.result ≡ t = c.type_or_int-value_type.ensures ∙ ap type_or_int c.known.ensures in
    let value_is : option_map value_of c.begins.result ≡ begins t initial1 = c.begins.ensures ∙ ap (λ (u : ValueType). begins u initial1) type_is in
    ap (λ (k : ℕ). (k, option_map value_of c.begins.result)) c.in_ok-site.ensures
    ∙ ap (λ (v : Option Value). (length s.sites, v)) (value_is ∙ ap (λ (o : Option Fixed). begins t o) c.in_ok-initial.ensures)
