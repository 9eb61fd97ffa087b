use Rattle.syntax.specs.Expressions.{ex_of}
use Rattle.parse_expressions.specs.States.{context_of, frames_in}
use Rattle.parse_expressions.proofs.Behind.{in_expression}
use Rattle.parse_expressions.proofs.closing_type.behind_type.Goals as goal

pub returns-then-not-reading : goal.returns-then-not-reading
returns-then-not-reading c = in_expression c.behind_inner_type.result (context_of c.args.reading.context) (frames_in c.args.reading) (ex_of c.args.part.expr) c.args.token _ c.if-not-reading.true c.behind_inner_type.ensures
