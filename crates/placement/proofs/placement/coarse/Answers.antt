use Rattle.std.proofs.Common.{Bool, List, false, ap, get_or, map, ◌∙◌}
use Rattle.std.specs.Prelude.{◌||◌, nat_lt}
use Rattle.typed.specs.Trees.{trees}
use Rattle.typed_syntax.specs.Syntax.{is_taken, site_width}
use Rattle.frames.specs.Placement.{Placement, among, most_words}
use Rattle.typed.specs.View.{global_of, program_of}
use Rattle.placement.proofs.Bits.{apart_at, swapped, told_next}
use Rattle.placement.proofs.placement.coarse.Goals as goal

pub loop-global-init : goal.loop-global-init
loop-global-init c =
    let program = c.args.program.now in let p = program_of program in
    λ site.
    let globals = among site (map (global_of p.sites) c.as_slice-globals.result.now) in
    ap (λ (bits : List Bool). get_or bits site false || globals) c.in_ok-on_heap.ensures
    ∙ ap (λ b. b || globals) (apart_at (trees program.types) program.sites.items site)
    ∙ swapped (is_taken p site || nat_lt most_words (site_width p site)) globals

pub loop-global-preserved : goal.loop-global-preserved
loop-global-preserved c =
    λ site. told_next (program_of c.args.program.now).sites c.as_slice-globals.result.now c.loop-global.global-index _ c.loop-global-test.true site _ _ _
    (ap (λ (l : Placement). l.on_heap site) c.in_ok-put_on_heap.ensures) (c.loop-global.invariant site)
