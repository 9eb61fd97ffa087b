use Rattle.syntax.specs.Expressions.{exs_of}
use Rattle.parse_go.proofs.ParameterSteps.{type_after}
use Rattle.parse_go.proofs.parameter_steps.next_type.Goals as goal

pub returns-in_default : goal.returns-in_default
returns-in_default c = rw (type_after (exs_of c.args.before.items) c.args.token c.in_default.not-RightParen) c.first_of_type.ensures
