use Rattle.std.proofs.Common.{◌≡◌, ℕ}
use Rattle.placement.specs.Told.{placement_of}
use Rattle.escape_placement.proofs.Told.{told_below}
use Rattle.escape_placement.proofs.placing.place.Given as goal

abbrev pub invariant-loop-site : goal.invariant-loop-site
invariant-loop-site l = (site : ℕ) → (placement_of l.placement).on_heap site ≡ told_below l.site l.solved.placed.items site
