use Rattle.std.proofs.Common.{◌≡◌, ◌+◌, max, drop, map}
use Rattle.typed.specs.View.{piece_of, program_of}
use Rattle.frames.specs.Frames.{need_pieces}
use Rattle.frame_layout.proofs.temps.line_temps.Given as goal

abbrev pub invariant-loop-p : goal.invariant-loop-p
invariant-loop-p l = need_pieces (program_of l.program) (map piece_of l.ps) ≡ max l.temps (l.kept + need_pieces (program_of l.program) (map piece_of (drop l.p-index l.ps)))
