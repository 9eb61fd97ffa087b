use Rattle.parse_statements.specs.BlocksInMemory.{blocks_at, spot_at}
use Rattle.parse_simple_statements.specs.SimpleStates.{simples_of}
use Rattle.parse_statements.proofs.BodyBegins.{first_of_simple}
use Rattle.parse_statements.proofs.statement.simple_begins.Goals as goal

pub returns : goal.returns
returns c = first_of_simple (blocks_at c.args.spot) (spot_at c.args.spot) (simples_of c.begin_simple-simples.result) c.args.token c.in_simple.result c.begin_simple-simples.ensures.begins c.in_simple.ensures
