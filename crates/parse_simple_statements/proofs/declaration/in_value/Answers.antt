use Rattle.std.proofs.Common.{refl}
use Rattle.syntax.specs.Expressions.{exs_of, ex_in}
use Rattle.parse_expressions.specs.States.{open_of}
use Rattle.parse_simple_statements.specs.Spots.{spot_of}
use Rattle.parse_simple_statements.specs.ValueSpecs.{value_context, after_value, nesting_after}
use Rattle.parse_simple_statements.proofs.Failures.{spec_fails}
use Rattle.parse_simple_statements.proofs.declaration.in_value.Goals as goal

pub returns-in-Err : goal.returns-in-Err
returns-in-Err c =
    let before = c.args.before in
    let s = spot_of before.named.spot in
    let b = value_context before.named.depth.brackets s in
    let o = open_of c.args.reading in
    spec_fails (after_value s before.named.names.items (ex_in before.type_expr) (exs_of before.values.items) c.args.token) (nesting_after before.named.depth.brackets s b o c.args.token) c.in-Err.fault o c.args.token _ b c.requires refl (λ p. tt) (λ p. refl) c.in-Err.ensures
