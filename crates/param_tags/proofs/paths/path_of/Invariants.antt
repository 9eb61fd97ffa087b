use Rattle.std.proofs.Common.{◌≡◌, take}
use Rattle.std.specs.List.{Contains}
use Rattle.param_tags.specs.declared.walks.Walked.{Walked}
use Rattle.param_tags.proofs.paths.path_of.Given as goal

abbrev pub invariant-loop-w : goal.invariant-loop-w
invariant-loop-w l = (w : Walked) → Contains (take l.w-index l.walks) w → w.root ≡ l.hold.root → ⊥
