use Rattle.std.proofs.Common.{refl}
use Rattle.parse_expressions.specs.States.{open_of}
use Rattle.parse_simple_statements.specs.Spots.{declares_of, spot_of}
use Rattle.parse_simple_statements.specs.ValueSpecs.{type_context, after_type, nesting_after}
use Rattle.parse_simple_statements.proofs.Failures.{spec_fails}
use Rattle.parse_simple_statements.proofs.declaration.in_type.Goals as goal

pub returns-in-Err : goal.returns-in-Err
returns-in-Err c =
    let named = c.args.named in
    let s = spot_of named.spot in
    let b = type_context named.depth.brackets s in
    let o = open_of c.args.reading in
    spec_fails (after_type (declares_of c.args.kind) s named.names.items c.args.token) (nesting_after named.depth.brackets s b o c.args.token) c.in-Err.fault o c.args.token _ b c.requires refl (λ p. tt) (λ p. refl) c.in-Err.ensures
