use Rattle.std.proofs.Common.{◌≡◌, max, drop}
use Rattle.typed.specs.View.{program_of, site_numbers, sts_of}
use Rattle.frames.specs.Frames.{sts_need}
use Rattle.frame_layout.proofs.temps.+temps.Given as goal

abbrev pub invariant-body_temps-loop-s : goal.invariant-body_temps-loop-s
invariant-body_temps-loop-s l = sts_need (program_of l.program) (site_numbers l.named) (sts_of l.body) ≡ max l.temps (sts_need (program_of l.program) (site_numbers l.named) (sts_of (drop l.s-index l.body)))
