use Rattle.syntax.specs.Expressions.{exs_of}
use Rattle.parse_go.proofs.ParameterSteps.{type_read}
use Rattle.parse_go.proofs.parameter_steps.first_of_type.Goals as goal

pub returns : goal.returns
returns c = type_read (exs_of c.args.before.items) c.args.token c.in_type.result (rw c.type_wanted-reading.ensures.is_open at c.in_type.ensures)
