use Rattle.parse_go.proofs.ParameterSteps.{type_behind}
use Rattle.parse_go.proofs.parameter_steps.behind_names.Goals as goal

pub returns-in_default : goal.returns-in_default
returns-in_default c =
    rw (type_behind c.args.names.items c.args.token c.in_default.not-Comma c.in_default.not-RightParen) (rw c.new.ensures.items at c.first_of_named_type.ensures)
