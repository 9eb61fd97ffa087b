use Rattle.std.proofs.Common.{◌∙◌, ap, sym, rules, FitsSigned}
use Rattle.std.specs.Int.{w128}
use Rattle.std.proofs.lemmas.Int.{to_z-of_z}
use Rattle.operators.specs.Folding.{in_range_or_fault}
use Rattle.operators.proofs.Shifts.{times_halves, half_out, checked}
use Rattle.operators.proofs.folding.scaled.Goals as goal

pub returns-in-Some : goal.returns-in-Some
returns-in-Some c =
    let x : FitsSigned w128 c.args.x = c.ranges.x in
    let half : FitsSigned w128 c.power.result = search rules in
    let rest : FitsSigned w128 c.power-in-Some.result = search rules in
    let shifted : FitsSigned w128 c.in-Some.shifted = search rules in
    let second = simp to_z-of_z at c.checked_mul-in-Some.ensures in
    let first = simp to_z-of_z at c.in-Some.ensures.1 in
    c.ok_or.ensures.value ∙ checked _ _ second ∙ ap in_range_or_fault (times_halves c.args.x c.power.result c.power-in-Some.result c.in-Some.shifted c.args.count c.power.ensures c.power-in-Some.ensures first)

pub returns-in-None : goal.returns-in-None
returns-in-None c =
    let x : FitsSigned w128 c.args.x = c.ranges.x in
    let half : FitsSigned w128 c.power.result = search rules in
    sym (half_out c.args.x c.power.result c.args.count c.power.ensures (simp to_z-of_z at c.in-None.ensures))
