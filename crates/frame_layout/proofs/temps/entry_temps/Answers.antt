use Rattle.std.proofs.Common.{◌≡◌, [], ◌∷◌, None, drop, get_or, map, max, arith}
use Rattle.typed_syntax.specs.Syntax.{type_in}
use Rattle.typed.specs.Trees.{trees}
use Rattle.typed.specs.View.{site_in}
use Rattle.frames.specs.Frames.{entry_need}
use Rattle.placement.specs.Told.{placement_of}
use Rattle.frame_layout.proofs.Entries.{entry_next}
use Rattle.frame_layout.proofs.temps.entry_temps.Goals as goal

pub loop-i-preserved : goal.loop-i-preserved
loop-i-preserved c =
    let l = placement_of c.args.placement.now in let types = trees c.args.program.now.types in let ps = c.args.params.now in let i = c.loop-i.i in
    let more = entry_next l types ps c.args.types.now i None (omega arith) in
    let own : c.nth_param_temps.result ≡ entry_need l (site_in (get_or ps i None) ∷ []) (map (λ t. type_in types t.0) (drop i c.args.types.now)) = c.nth_param_temps.ensures in
    let most : c.max-most.result ≡ max c.loop-i.most c.nth_param_temps.result = c.max-most.ensures in
    omega (arith, more, own, most, c.loop-i.invariant)
