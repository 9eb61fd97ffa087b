use Rattle.syntax.specs.Expressions.{elements_of}
use Rattle.parse_expressions.specs.Containers.{container_of}
use Rattle.parse_expressions.specs.States.{context_of, frames_in}
use Rattle.parse_expressions.proofs.Begins.{element_begins}
use Rattle.parse_expressions.proofs.elements.element.Goals as goal

pub returns-in_default : goal.returns-in_default
returns-in_default c = element_begins c.begin_value.result (context_of c.args.opened.outside.context) (frames_in c.args.opened.outside) (container_of c.args.braces.container) (elements_of c.args.braces.elements.items) c.args.token c.in_default.not-RightBrace c.begin_value.ensures
