use Rattle.std.proofs.Common.{refl}
use Rattle.syntax.specs.Statements.{simple_in}
use Rattle.parse_expressions.specs.States.{open_of}
use Rattle.parse_statements.specs.Outer.{chain_depth, statement_depth}
use Rattle.parse_statements.specs.Outers.{branches_of}
use Rattle.parse_statements.specs.Bodies.{header_context, after_condition, nesting_after}
use Rattle.parse_statements.specs.BlocksInMemory.{blocks_of}
use Rattle.parse_statements.proofs.Failures.{body_fails}
use Rattle.parse_statements.proofs.header.condition.Goals as goal

pub returns-in-Err : goal.returns-in-Err
returns-in-Err c =
    let s = c.args.state in
    let b = blocks_of s.header.blocks in
    let bs = branches_of s.header.branches.items in
    let context = header_context (chain_depth bs (statement_depth b)) in
    let o = open_of s.reading in
    body_fails (after_condition b bs s.header.pos (simple_in s.init) c.args.token) (nesting_after b context.depth context o c.args.token) c.in-Err.fault o c.args.token _ context s.in_context refl (λ p. tt) (λ p. refl) c.in-Err.ensures
