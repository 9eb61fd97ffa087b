use Rattle.std.proofs.Common.{◌≡◌, ◌≤◌, max, drop, map}
use Rattle.typed.specs.View.{left_of}
use Rattle.frames.specs.Frames.{lefts_far}
use Rattle.frame_layout.proofs.temps.lefts_address.Given as goal

abbrev pub invariant-loop-left : goal.invariant-loop-left
invariant-loop-left l = (lefts_far (map left_of l.lefts) ≡ max l.most (lefts_far (map left_of (drop l.left-index l.lefts)))) × (l.most ≤ 1)
