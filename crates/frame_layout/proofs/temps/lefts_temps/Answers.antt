use Rattle.std.proofs.Common.{◌≡◌, ◌+◌, ◌-◌, [], ◌∷◌, map, take, sym, ap, ◌∙◌, arith}
use Rattle.typed.specs.declared.stmt.Left.{Left}
use Rattle.typed.specs.View.{left_of, program_of}
use Rattle.frames.specs.Frames.{lefts_need}
use Rattle.frame_layout.proofs.Sides.{taken_last}
use Rattle.frame_layout.proofs.temps.lefts_temps.Goals as goal

pub loop-i-preserved : goal.loop-i-preserved
loop-i-preserved c =
    let p = program_of c.args.program.now in
    let lefts = c.args.lefts.now in
    let i = c.loop-i.i - 1 in
    let next : c.loop-i.i ≡ i + 1 = omega arith in
    let back = taken_last p lefts i c.index-lefts-i.result c.loop-i.temps (omega arith) in
    let item = ap (λ (x : Left). lefts_need p (left_of x ∷ []) c.loop-i.temps) (sym c.index-lefts-i.is) in
    c.loop-i.invariant ∙ ap (λ n. lefts_need p (map left_of (take n lefts)) c.loop-i.temps) next ∙ back
    ∙ ap (lefts_need p (map left_of (take i lefts))) (item ∙ sym c.in_ok-temps.ensures)
