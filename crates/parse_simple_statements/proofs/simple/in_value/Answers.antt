use Rattle.std.proofs.Common.{refl}
use Rattle.syntax.specs.Expressions.{exs_of}
use Rattle.parse_expressions.specs.States.{open_of}
use Rattle.parse_simple_statements.specs.Simples.{expression_context, after_value, nesting_after}
use Rattle.parse_simple_statements.specs.Contexts.{context_of, listed_of}
use Rattle.parse_simple_statements.proofs.Failures.{simple_fails}
use Rattle.parse_simple_statements.proofs.simple.in_value.Goals as goal

pub returns-in-Err : goal.returns-in-Err
returns-in-Err c =
    let b = expression_context (context_of c.args.value.context) in
    let o = open_of c.args.value.reading in
    simple_fails (after_value (listed_of c.args.listed) (exs_of c.args.before.items) c.args.token) (nesting_after b o c.args.token) c.in-Err.fault o c.args.token _ b c.args.value.in_context refl (λ p. tt) (λ p. refl) c.in-Err.ensures
