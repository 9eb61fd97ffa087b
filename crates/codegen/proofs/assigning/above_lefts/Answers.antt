use Rattle.std.proofs.Common.{arith}
use Rattle.codegen.proofs.Above.{above_one}
use Rattle.codegen.proofs.assigning.above_lefts.Goals as goal

pub above_left-above-requires : goal.above_left-above-requires
above_left-above-requires c =
    let one = above_one c.args.ls.now c.loop-left.left-index c.left-item.result c.loop-left.above c.loop-left-test.true c.left-item.is in
    let same = c.loop-left.invariant in let room = c.requires in omega (arith, one, same, room)
