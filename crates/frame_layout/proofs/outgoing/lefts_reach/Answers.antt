use Rattle.std.proofs.Common.{◌+◌, drop, map, arith}
use Rattle.std.proofs.lemmas.Grind.{common_steps}
use Rattle.typed.specs.View.{left_of, program_of}
use Rattle.frame_layout.proofs.Sides.{lefts_first}
use Rattle.frame_layout.proofs.outgoing.lefts_reach.Goals as goal

pub loop-left-preserved : goal.loop-left-preserved
loop-left-preserved c =
    let first = lefts_first (program_of c.args.program.now) (left_of c.left-item.result) (map left_of (drop (c.loop-left.left-index + 1) c.args.lefts.now)) 0 in
    grind (arith, common_steps, first)
