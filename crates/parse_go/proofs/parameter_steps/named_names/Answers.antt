use Rattle.syntax.specs.Declarations.{fields_of}
use Rattle.parse_go.proofs.ParameterSteps.{type_of_names}
use Rattle.parse_go.proofs.parameter_steps.named_names.Goals as goal

pub returns-in_default : goal.returns-in_default
returns-in_default c = rw (type_of_names (fields_of c.args.before.items) c.args.names.items c.args.token c.in_default.not-Comma) c.first_of_named_type.ensures
