use Rattle.syntax.specs.Expressions.{elements_of}
use Rattle.parse_expressions.specs.Containers.{container_of}
use Rattle.parse_expressions.specs.States.{context_of, frames_in}
use Rattle.parse_expressions.proofs.Begins.{value_begins}
use Rattle.parse_expressions.proofs.elements.behind_key.Goals as goal

pub returns : goal.returns
returns c = value_begins c.begin_value.result (context_of c.args.opened.outside.context) (frames_in c.args.opened.outside) (container_of c.args.braces.container) (elements_of c.args.braces.elements.items) c.args.key c.args.token _ c.begin_value.ensures
