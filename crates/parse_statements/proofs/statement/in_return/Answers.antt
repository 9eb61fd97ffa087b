use Rattle.std.proofs.Common.{refl}
use Rattle.syntax.specs.Expressions.{exs_of}
use Rattle.parse_expressions.specs.States.{open_of}
use Rattle.parse_statements.specs.Bodies.{value_context, after_returned, nesting_after, nesting_at_stop}
use Rattle.parse_statements.specs.BlocksInMemory.{blocks_of}
use Rattle.parse_statements.proofs.Failures.{body_fails}
use Rattle.parse_statements.proofs.statement.in_return.Goals as goal

pub returns-in-Err : goal.returns-in-Err
returns-in-Err c =
    let s = c.args.state in
    let b = blocks_of s.blocks in
    let o = open_of s.reading in
    body_fails (after_returned b s.pos (exs_of s.values.items) c.args.token) (nesting_after b (nesting_at_stop b c.args.token) (value_context b) o c.args.token) c.in-Err.fault o c.args.token _ (value_context b) s.in_context refl (λ p. tt) (λ p. refl) c.in-Err.ensures
