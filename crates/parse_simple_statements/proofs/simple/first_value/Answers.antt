use Rattle.std.proofs.Common.{ap}
use Rattle.syntax.specs.Expressions.{exs_of}
use Rattle.parse_expressions.specs.States.{open_of}
use Rattle.parse_simple_statements.specs.Contexts.{context_of, listed_of}
use Rattle.parse_simple_statements.proofs.SimpleSteps.{value_begins}
use Rattle.parse_simple_statements.proofs.simple.first_value.Goals as goal

pub returns-in_default : goal.returns-in_default
returns-in_default c =
    let value = c.expression_wanted-value in
    value_begins (context_of c.args.context) (context_of value.result.context) (listed_of c.args.listed) (exs_of c.new.result.items) (open_of value.result.reading) c.args.token c.in_value.result (ap context_of value.ensures.context) (ap exs_of c.new.ensures.items) value.ensures.wanted c.in_default.not-Range c.in_value.ensures
