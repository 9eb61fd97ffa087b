use Rattle.std.proofs.Common.{◌≡◌, max, drop}
use Rattle.frames.specs.Frames.{widest}
use Rattle.typed.specs.View.{program_of, site_numbers}
use Rattle.frame_layout.proofs.words.widest.Given as goal

abbrev pub invariant-loop-site : goal.invariant-loop-site
invariant-loop-site l = max l.most (widest (program_of l.program) (site_numbers (drop l.site-index l.sites))) ≡ widest (program_of l.program) (site_numbers l.sites)
