use Rattle.std.proofs.Common.{◌≡◌, ◌+◌, ◌-◌, ◌≤◌}
use Rattle.frames.specs.Frames.{cells_between}
use Rattle.typed.specs.View.{program_of}
use Rattle.placement.specs.Told.{placement_of}
use Rattle.frame_layout.proofs.words.cells_of.Given as goal

abbrev pub invariant-loop-i : goal.invariant-loop-i
invariant-loop-i l = let at = placement_of l.placement in let made = (program_of l.program).made in record {
  counted : l.cells + cells_between at made (l.first + l.i) (l.count - l.i) ≡ cells_between at made l.first l.count;
  within : l.i ≤ l.count;
  few : l.cells ≤ l.i;
}
