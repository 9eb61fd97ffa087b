use Rattle.std.proofs.Common.{arith}
use Rattle.typed.specs.View.{program_of}
use Rattle.expression_code.specs.Frame.{slots_in}
use Rattle.codegen.proofs.Above.{above_next, above_one}
use Rattle.codegen.proofs.Emitted.{left_ready, ready_split}
use Rattle.codegen.proofs.assigning.ready_lefts.Goals as goal

pub above_left-next-requires : goal.above_left-next-requires
above_left-next-requires c =
    let one = above_one c.args.ls.now c.loop-left.left-index c.left-item.result c.loop-left.next c.loop-left-test.true c.left-item.is in let room = c.loop-left.invariant.2 in omega (arith, one, room)

pub loop-left-preserved : goal.loop-left-preserved
loop-left-preserved c =
    let p = program_of c.args.program.now in let slots = slots_in c.args.program.now c.args.frame.now in let ls = c.args.ls.now in let i = c.loop-left.left-index in let x = c.left-item.result in
    let l = c.loop-left-test.true in let is = c.left-item.is in let h = c.loop-left.next in let above = c.above_left-next.ensures in let inv = c.loop-left.invariant in (
      left_ready p slots _ _ _ ls i x h _ l is above inv.0 c.in_ok-ready_left.ensures,
      (ready_split p slots c.args.frame.now.sites ls i x h _ l is above inv.1).1,
      (let e = above_next ls i x h _ l is above in let room = inv.2 in omega (arith, e, room)),
    )
