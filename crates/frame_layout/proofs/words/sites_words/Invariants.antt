use Rattle.std.proofs.Common.{◌≡◌, ◌+◌, ◌-◌, ◌*◌, ◌≤◌}
use Rattle.frames.specs.Frames.{words_between}
use Rattle.typed.specs.View.{program_of}
use Rattle.placement.specs.Told.{placement_of}
use Rattle.frame_layout.proofs.words.sites_words.Given as goal

abbrev pub invariant-loop-i : goal.invariant-loop-i
invariant-loop-i l = record {
  counted : l.words + words_between (placement_of l.placement) (program_of l.program).sites (l.first + l.i) (l.count - l.i) ≡ words_between (placement_of l.placement) (program_of l.program).sites l.first l.count;
  within : l.i ≤ l.count;
  few : l.words ≤ 4294967295 * l.i;
}
