use Rattle.std.proofs.Common.{◌≡◌, ℕ, ◌||◌, drop, map}
use Rattle.std.specs.Prelude.{nat_lt}
use Rattle.typed_syntax.specs.Syntax.{is_taken, site_width}
use Rattle.frames.specs.Placement.{among, most_words}
use Rattle.typed.specs.View.{global_of, program_of}
use Rattle.placement.specs.Told.{placement_of}
use Rattle.placement.proofs.placement.coarse.Given as goal

abbrev pub invariant-loop-global : goal.invariant-loop-global
invariant-loop-global l =
    (site : ℕ)
    → (placement_of l.placement).on_heap site || among site (map (global_of (program_of l.program).sites) (drop l.global-index l.globals))
    ≡ (among site (map (global_of (program_of l.program).sites) l.globals) || (is_taken (program_of l.program) site || nat_lt most_words (site_width (program_of l.program) site)))
