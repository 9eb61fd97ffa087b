use Rattle.std.proofs.Common.{refl}
use Rattle.syntax.specs.Expressions.{exs_of}
use Rattle.parse_expressions.specs.States.{open_of}
use Rattle.parse_simple_statements.specs.Simples.{expression_context, after_left, nesting_after}
use Rattle.parse_simple_statements.specs.Contexts.{context_of}
use Rattle.parse_simple_statements.proofs.Failures.{simple_fails}
use Rattle.parse_simple_statements.proofs.simple.in_left.Goals as goal

pub returns-in-Err : goal.returns-in-Err
returns-in-Err c =
    let p = context_of c.args.left.context in
    let b = expression_context p in
    let o = open_of c.args.left.reading in
    simple_fails (after_left p (exs_of c.args.before.items) c.args.token) (nesting_after b o c.args.token) c.in-Err.fault o c.args.token _ b c.args.left.in_context refl (λ q. tt) (λ q. refl) c.in-Err.ensures
