use Rattle.parse_expressions.specs.States.{open_of}
use Rattle.parse_simple_statements.specs.Spots.{declares_of, spot_of}
use Rattle.parse_simple_statements.proofs.SpecBegins.{type_begins}
use Rattle.parse_simple_statements.proofs.declaration.names.Goals as goal

pub returns-in_default : goal.returns-in_default
returns-in_default c = type_begins (declares_of c.args.kind) c.args.named.depth.brackets (spot_of c.args.named.spot) c.args.named.names.items c.args.token c.in_type.result (open_of c.type_wanted.result) c.type_wanted.ensures.is_open c.in_default.not-Comma c.in_default.not-Assign c.in_type.ensures
