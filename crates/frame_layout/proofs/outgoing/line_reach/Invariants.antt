use Rattle.std.proofs.Common.{◌≡◌, max, drop, map}
use Rattle.typed.specs.View.{piece_of, program_of}
use Rattle.frames.specs.Frames.{reach_pieces}
use Rattle.frame_layout.proofs.outgoing.line_reach.Given as goal

abbrev pub invariant-loop-p : goal.invariant-loop-p
invariant-loop-p l = reach_pieces (program_of l.program) (map piece_of l.ps) ≡ max l.words (reach_pieces (program_of l.program) (map piece_of (drop l.p-index l.ps)))
