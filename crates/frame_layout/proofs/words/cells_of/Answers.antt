use Rattle.std.proofs.Common.{arith}
use Rattle.std.proofs.lemmas.Grind.{common_steps}
use Rattle.typed.specs.View.{program_of}
use Rattle.placement.specs.Told.{placement_of}
use Rattle.frame_layout.proofs.Widths.{cells_more}
use Rattle.frame_layout.proofs.words.cells_of.Goals as goal

pub loop-i-preserved : goal.loop-i-preserved
loop-i-preserved c =
    let more = cells_more (placement_of c.args.placement.now) (program_of c.args.program.now).made c.args.first c.loop-i.i c.args.count (omega arith) in
    record { counted = grind (arith, common_steps, more); within = omega arith; few = omega arith }
