use Rattle.syntax.specs.Expressions.{ex_in}
use Rattle.syntax.specs.Statements.{simple_in}
use Rattle.parse_statements.specs.BlocksInMemory.{blocks_of}
use Rattle.parse_statements.proofs.BodyBegins.{post_begins}
use Rattle.parse_statements.proofs.header.post.Goals as goal

pub returns-in_default : goal.returns-in_default
returns-in_default c = post_begins (blocks_of c.args.blocks) c.args.pos (simple_in c.args.init) (ex_in c.args.condition) c.args.token c.simple_begins.result c.in_default.not-LeftBrace c.simple_begins.ensures
