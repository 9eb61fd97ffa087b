use Rattle.std.proofs.Common.{◌≡◌, max, drop}
use Rattle.typed.specs.View.{sts_of, program_of}
use Rattle.frames.specs.Frames.{sts_reach}
use Rattle.frame_layout.proofs.outgoing.+reach.Given as goal

abbrev pub invariant-body_reach-loop-s : goal.invariant-body_reach-loop-s
invariant-body_reach-loop-s l = sts_reach (program_of l.program) (sts_of l.body) ≡ max l.words (sts_reach (program_of l.program) (sts_of (drop l.s-index l.body)))
