use Rattle.std.proofs.Common.{◌≡◌, map, take}
use Rattle.typed.specs.View.{left_of, program_of}
use Rattle.frames.specs.Frames.{lefts_need}
use Rattle.frame_layout.proofs.temps.lefts_temps.Given as goal

abbrev pub invariant-loop-i : goal.invariant-loop-i
invariant-loop-i l = lefts_need (program_of l.program) (map left_of l.lefts) l.behind ≡ lefts_need (program_of l.program) (map left_of (take l.i l.lefts)) l.temps
