use Rattle.std.proofs.Common.{refl}
use Rattle.syntax.specs.Statements.{targets_of}
use Rattle.parse_expressions.specs.States.{open_of}
use Rattle.parse_statements.specs.Outer.{statement_depth}
use Rattle.parse_statements.specs.Bodies.{header_context, after_range, nesting_after}
use Rattle.parse_statements.specs.BlocksInMemory.{blocks_of}
use Rattle.parse_statements.proofs.Failures.{body_fails}
use Rattle.parse_statements.proofs.header.in_range.Goals as goal

pub returns-in-Err : goal.returns-in-Err
returns-in-Err c =
    let s = c.args.header in
    let b = blocks_of s.blocks in
    let context = header_context (statement_depth b) in
    let o = open_of s.reading in
    body_fails (after_range b s.pos (targets_of c.args.targets) c.args.range_pos c.args.token) (nesting_after b context.depth context o c.args.token) c.in-Err.fault o c.args.token _ context s.in_context refl (λ p. tt) (λ p. refl) c.in-Err.ensures
