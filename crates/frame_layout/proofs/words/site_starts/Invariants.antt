use Rattle.std.proofs.Common.{◌≡◌, ◌+◌, ◌-◌, ◌≤◌, ◌++◌}
use Rattle.frames.specs.Frames.{cells_between, words_between}
use Rattle.typed.specs.View.{program_of}
use Rattle.placement.specs.Told.{placement_of}
use Rattle.frame_layout.specs.Layout.{starts}
use Rattle.frame_layout.proofs.words.site_starts.Given as goal

abbrev pub invariant-loop-i : goal.invariant-loop-i
invariant-loop-i l = let at = placement_of l.placement in let made = (program_of l.program).made in let sites = (program_of l.program).sites in let cells = cells_between at made l.first l.count in record {
  numbered : l.cell + cells_between at made (l.first + l.i) (l.count - l.i) ≡ cells;
  counted : l.word + words_between at sites (l.first + l.i) (l.count - l.i) ≡ cells + words_between at sites l.first l.count;
  listed : starts at made sites l.first 0 cells l.count ≡ l.starts.items ++ starts at made sites (l.first + l.i) l.cell l.word (l.count - l.i);
  within : l.i ≤ l.count;
}
