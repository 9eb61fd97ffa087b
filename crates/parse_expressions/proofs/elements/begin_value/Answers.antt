use Rattle.std.proofs.Common.{◌∷◌}
use Rattle.parse_expressions.specs.declared.frame.Frame.TheVariants as frame
use Rattle.parse_expressions.specs.Stacks.{frame_of}
use Rattle.parse_expressions.specs.States.{context_of, frames_in}
use Rattle.parse_expressions.proofs.Begins.{no_brace}
use Rattle.parse_expressions.proofs.elements.begin_value.Goals as goal

pub returns-in_default : goal.returns-in_default
returns-in_default c = no_brace c.operand_inside.result (context_of c.args.reading.context) (frame_of (frame.Element c.args.braces c.args.key) ∷ frames_in c.args.reading) c.args.token _ c.in_default.not-LeftBrace c.operand_inside.ensures
