use Rattle.parse_statements.specs.Outers.{branches_of}
use Rattle.parse_statements.specs.BlocksInMemory.{blocks_of}
use Rattle.parse_statements.proofs.BodyBegins.{if_begins}
use Rattle.parse_statements.proofs.header.if_header.Goals as goal

pub returns-in_default : goal.returns-in_default
returns-in_default c = if_begins (blocks_of c.args.header.blocks) (branches_of c.args.header.branches.items) c.args.header.pos c.args.token c.simple_begins.result c.in_default.not-Semicolon c.simple_begins.ensures
