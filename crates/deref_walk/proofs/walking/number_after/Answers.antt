use Rattle.std.proofs.Common.{w32, rules, arith}
use Rattle.std.specs.Int.RustNames.{FitsSigned}
use Rattle.std.proofs.lemmas.Int.{ints, clamps}
use Rattle.deref_walk.proofs.walking.number_after.Goals as goal

pub returns : goal.returns
returns c =
    let weight_fits : FitsSigned w32 c.args.weight = search rules in
    let number_fits : FitsSigned w32 c.args.near = search rules in
    omega (arith, ints, clamps, c.max.ensures.value, c.from.ensures, c.from-2.ensures, c.min.ensures.value)
