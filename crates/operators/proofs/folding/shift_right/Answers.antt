use Rattle.std.proofs.Common.{FitsSigned}
use Rattle.std.specs.Int.{w128}
use Rattle.std.proofs.lemmas.Int.{to_z-of_z}
use Rattle.operators.proofs.Shifts.{shifted_right_far}
use Rattle.operators.proofs.folding.shift_right.Goals as goal

pub returns-then-count-gt127 : goal.returns-then-count-gt127
returns-then-count-gt127 c =
    let count : FitsSigned w128 c.args.count = c.ranges.count in
    shifted_right_far c.args.x c.args.count c.ranges.x (simp to_z-of_z at c.if-count-gt127.true)
