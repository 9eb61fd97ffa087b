use Rattle.parse_statements.specs.BlocksInMemory.{blocks_of}
use Rattle.parse_statements.proofs.BodyBegins.{for_begins}
use Rattle.parse_statements.proofs.header.for_header.Goals as goal

pub returns-in_default : goal.returns-in_default
returns-in_default c = for_begins (blocks_of c.args.blocks) c.args.pos c.args.token c.simple_begins.result c.in_default.not-LeftBrace c.in_default.not-Semicolon c.in_default.not-Range c.simple_begins.ensures
