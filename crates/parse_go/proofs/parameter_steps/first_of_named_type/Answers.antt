use Rattle.syntax.specs.Declarations.{fields_of}
use Rattle.parse_go.proofs.ParameterSteps.{named_type_read}
use Rattle.parse_go.proofs.parameter_steps.first_of_named_type.Goals as goal

pub returns : goal.returns
returns c = named_type_read (fields_of c.args.before.items) c.args.names.items c.args.token c.in_named_type.result (rw c.type_wanted-reading.ensures.is_open at c.in_named_type.ensures)
