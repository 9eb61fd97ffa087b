use Rattle.syntax.specs.Expressions.{ex_of}
use Rattle.parse_expressions.specs.States.{context_of, frames_in}
use Rattle.parse_expressions.proofs.Begins.{index_begins}
use Rattle.parse_expressions.proofs.index.behind_opening.Goals as goal

pub returns-in_default : goal.returns-in_default
returns-in_default c = index_begins c.operand_inside.result (context_of c.args.opened.outside.context) (frames_in c.args.opened.outside) (ex_of c.args.value.expr) c.args.pos c.args.token _ c.in_default.not-Colon c.operand_inside.ensures
