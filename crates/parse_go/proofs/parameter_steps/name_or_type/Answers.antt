use Rattle.parse_go.proofs.ParameterSteps.{are_types, type_next}
use Rattle.parse_go.proofs.parameter_steps.name_or_type.Goals as goal

pub returns-in_ok-types_named-in_default : goal.returns-in_ok-types_named-in_default
returns-in_ok-types_named-in_default c =
    let types = are_types c.in_ok-types_named-in_default.field-0.items c.deref-in_default.result.now c.in_ok-types_named-in_default.ensures in
    rw (type_next c.args.names.items c.args.token c.in_default.not-Identifier c.in_default.not-RightParen) (rw (types, c.deref-in_default.ensures.value) at c.first_of_type.ensures)
