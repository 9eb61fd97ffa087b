use Rattle.std.proofs.Common.{ap, sym, of_z, FitsSigned}
use Rattle.std.specs.Int.{w128}
use Rattle.std.proofs.lemmas.Int.{to_z-of_z}
use Rattle.operators.proofs.Shifts.{shifted_far}
use Rattle.operators.proofs.folding.shift_left.Goals as goal

pub returns-then-count-gt127 : goal.returns-then-count-gt127
returns-then-count-gt127 c =
    let count : FitsSigned w128 c.args.count = c.ranges.count in
    sym (shifted_far c.args.x c.args.count (λ e. c.if-x-eq0.false (ap (of_z w128) e)) (simp to_z-of_z at c.if-count-gt127.true))
