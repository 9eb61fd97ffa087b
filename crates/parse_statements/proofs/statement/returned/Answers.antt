use Rattle.std.proofs.Common.{[], ap, ◌∙◌}
use Rattle.syntax.specs.Expressions.{exs_of}
use Rattle.parse_expressions.specs.Machine.{at_operand}
use Rattle.parse_statements.specs.Bodies.{in_return}
use Rattle.parse_statements.specs.BlocksInMemory.{blocks_of}
use Rattle.parse_statements.proofs.BodyBegins.{return_begins}
use Rattle.parse_statements.proofs.statement.returned.Goals as goal

pub returns-in_default : goal.returns-in_default
returns-in_default c = return_begins (blocks_of c.args.blocks) c.args.pos _ c.args.token c.in_return.result (c.value_wanted-reading.ensures ∙ ap (λ es. in_return (blocks_of c.args.blocks) c.args.pos (exs_of es) (at_operand [])) c.new-in_default.ensures.items) c.in_default.not-Semicolon c.in_default.not-RightBrace c.in_return.ensures
