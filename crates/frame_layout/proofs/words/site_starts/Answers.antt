use Rattle.std.proofs.Common.{◌≡◌, ◌+◌, ◌-◌, ◌++◌, ◌∷◌, [], ◌∙◌, ap, sym, arith, append_assoc}
use Rattle.std.proofs.lemmas.Grind.{common_steps}
use Rattle.frames.specs.Frames.{stack_words}
use Rattle.typed.specs.View.{program_of}
use Rattle.placement.specs.Told.{placement_of}
use Rattle.frame_layout.specs.Layout.{start_at, starts}
use Rattle.frame_layout.proofs.Widths.{between_more, cells_more, starts_more}
use Rattle.frame_layout.proofs.words.site_starts.Goals as goal

pub overflow_add-cell : goal.overflow_add-cell
overflow_add-cell c =
    let more = cells_more (placement_of c.args.placement.now) (program_of c.args.program.now).made c.args.first c.loop-i.i c.args.count (omega arith) in
    omega (arith, more, c.loop-i.invariant.numbered, c.cells_at.ensures.is, c.requires)

pub overflow_cast-word-in-loop-i : goal.overflow_cast-word-in-loop-i
overflow_cast-word-in-loop-i c =
    let more = between_more (placement_of c.args.placement.now) (program_of c.args.program.now).sites c.args.first c.loop-i.i c.args.count (omega arith) in
    omega (arith, more, c.loop-i.invariant.counted, c.stack_words.ensures.is, c.requires)

pub overflow_add-word : goal.overflow_add-word
overflow_add-word c =
    let more = between_more (placement_of c.args.placement.now) (program_of c.args.program.now).sites c.args.first c.loop-i.i c.args.count (omega arith) in
    omega (arith, more, c.loop-i.invariant.counted, c.stack_words.ensures.is, c.requires)

pub loop-i-preserved : goal.loop-i-preserved
loop-i-preserved c =
    let l = placement_of c.args.placement.now in let made = (program_of c.args.program.now).made in let sites = (program_of c.args.program.now).sites in let i = c.loop-i.i in let cell = c.loop-i.cell in let word = c.loop-i.word in let old = c.loop-i.starts.items in
    let cells = cells_more l made c.args.first i c.args.count (omega arith) in
    let more = between_more l sites c.args.first i c.args.count (omega arith) in
    let now = start_at l (c.args.first + i) cell word in
    let rest = starts l made sites (c.args.first + (i + 1)) (cell + c.cells_at.result) (word + c.stack_words.result) (c.args.count - (i + 1)) in
    let next : starts l made sites (c.args.first + i) cell word (c.args.count - i) ≡ now ∷ rest =
    starts_more l made sites c.args.first i cell word c.args.count (omega arith)
    ∙ ap (λ k. now ∷ starts l made sites (c.args.first + (i + 1)) (cell + k) (word + stack_words l sites (c.args.first + i)) (c.args.count - (i + 1))) (sym c.cells_at.ensures.is)
    ∙ ap (λ w. now ∷ starts l made sites (c.args.first + (i + 1)) (cell + c.cells_at.result) (word + w) (c.args.count - (i + 1))) (sym c.stack_words.ensures.is) in
    record {
      numbered = grind (arith, common_steps, cells);
      counted = grind (arith, common_steps, more);
      listed = c.loop-i.invariant.listed ∙ ap (λ ns. old ++ ns) next ∙ sym (append_assoc old (now ∷ []) rest) ∙ ap (λ ns. ns ++ rest) (sym (c.in_ok-push.ensures.items ∙ ap (λ k. old ++ k ∷ []) c.start.ensures));
      within = omega arith;
    }
