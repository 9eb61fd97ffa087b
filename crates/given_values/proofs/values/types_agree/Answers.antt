use Rattle.std.proofs.Common.{◌≤◌, min, length, arith, sym, ap, ◌∙◌}
use Rattle.std.specs.Prelude.{◌&&◌}
use Rattle.type_faults.proofs.Lists.{and_true}
use Rattle.given_values.proofs.Places.{types_all}
use Rattle.given_values.proofs.values.types_agree.Goals as goal

pub returns : goal.returns
returns c =
    let ps = c.args.places.now in
    let ts = c.args.types.now in
    let k = c.loop-index.index in
    let end : min (length ps) (length ts) ≤ k = omega (arith, c.loop-index-test.false, c.min-index-end.ensures) in
    sym (c.loop-index.invariant ∙ ap (λ b. c.loop-index.agree && b) (types_all ps ts k end) ∙ and_true c.loop-index.agree)
