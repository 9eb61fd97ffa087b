use Rattle.std.proofs.Common.{ap}
use Rattle.syntax.specs.Statements.{simple_in}
use Rattle.parse_expressions.specs.States.{open_of}
use Rattle.parse_statements.specs.BlocksInMemory.{blocks_of}
use Rattle.parse_statements.proofs.BodyBegins.{second_begins}
use Rattle.parse_statements.proofs.header.second.Goals as goal

pub returns-in_default : goal.returns-in_default
returns-in_default c =
    let f = c.for_expression in
    second_begins (blocks_of c.args.blocks) (blocks_of f.result.blocks) c.args.pos f.result.pos (simple_in c.args.init) (open_of f.result.reading) c.args.token c.in_second.result (ap blocks_of f.ensures.blocks) f.ensures.pos f.ensures.wanted c.in_default.not-Semicolon c.in_second.ensures
