use Rattle.std.proofs.Common.{◌≡◌, max, drop, map}
use Rattle.typed.specs.View.{left_of, program_of}
use Rattle.frames.specs.Frames.{lefts_reach}
use Rattle.frame_layout.proofs.outgoing.lefts_reach.Given as goal

abbrev pub invariant-loop-left : goal.invariant-loop-left
invariant-loop-left l = lefts_reach (program_of l.program) (map left_of l.lefts) 0 ≡ max l.words (lefts_reach (program_of l.program) (map left_of (drop l.left-index l.lefts)) 0)
