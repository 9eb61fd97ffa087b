use Rattle.syntax.specs.Expressions.{ex_of}
use Rattle.parse_expressions.specs.States.{context_of, frames_in}
use Rattle.parse_expressions.proofs.Behind.{no_name_colon}
use Rattle.parse_expressions.proofs.operator.colon.Goals as goal

pub returns-in-None : goal.returns-in-None
returns-in-None c = no_name_colon c.closes_reduced.result (context_of c.args.reading.context) (frames_in c.args.reading) (ex_of c.args.part.expr) c.in-None.ensures c.closes_reduced.ensures
