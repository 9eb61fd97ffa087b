use Rattle.std.proofs.Common.{◌≡◌, max, drop, map}
use Rattle.frames.specs.Frames.{entry_need}
use Rattle.typed_syntax.specs.Syntax.{type_in}
use Rattle.typed.specs.Trees.{trees}
use Rattle.typed.specs.View.{site_in}
use Rattle.placement.specs.Told.{placement_of}
use Rattle.frame_layout.proofs.temps.entry_temps.Given as goal

abbrev pub invariant-loop-i : goal.invariant-loop-i
invariant-loop-i l =
    max l.most (entry_need (placement_of l.placement) (map site_in (drop l.i l.params)) (map (λ t. type_in (trees l.program.types) t.0) (drop l.i l.types)))
    ≡ entry_need (placement_of l.placement) (map site_in l.params) (map (λ t. type_in (trees l.program.types) t.0) l.types)
