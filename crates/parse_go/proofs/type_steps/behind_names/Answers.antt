use Rattle.parse_go.specs.TypeSpots.{struct_of}
use Rattle.parse_go.proofs.TypeSteps.{type_begins}
use Rattle.parse_go.proofs.type_steps.behind_names.Goals as goal

pub returns-in_default : goal.returns-in_default
returns-in_default c =
    type_begins (struct_of c.args.owner) c.args.names.items c.args.token c.in_type.result c.in_default.not-Comma (rw c.type_wanted-reading.ensures.is_open at c.in_type.ensures)
