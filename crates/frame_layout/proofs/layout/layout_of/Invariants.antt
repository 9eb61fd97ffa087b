use Rattle.std.proofs.Common.{◌≡◌, ◌++◌, drop, map}
use Rattle.typed.specs.Trees.{trees}
use Rattle.typed.specs.View.{func_of, program_of}
use Rattle.placement.specs.Told.{placement_of}
use Rattle.frame_layout.specs.Layout.{first_too_large, layout_in, layouts}
use Rattle.frame_layout.proofs.layout.layout_of.Given as goal

abbrev pub invariant-loop-func : goal.invariant-loop-func
invariant-loop-func l = (layouts (program_of l.program) (placement_of l.placement) ≡ l.frames.items ++ map (layout_in (program_of l.program) (placement_of l.placement)) (map (func_of (trees l.program.types)) (drop l.func-index l.funcs)))
    × (first_too_large (program_of l.program) (placement_of l.placement) l.funcs ≡ first_too_large (program_of l.program) (placement_of l.placement) (drop l.func-index l.funcs))
