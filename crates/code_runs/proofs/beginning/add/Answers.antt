use Rattle.std.proofs.Common.{◌∙◌, List, ℕ, ap, get_or}
use Rattle.typed_syntax.specs.Types.{ints}
use Rattle.heap_bump.specs.Words.{Words}
use Rattle.expression_code.specs.Frame.{sites_in}
use Rattle.code_runs.specs.Runs.{with_first}
use Rattle.code_runs.proofs.Begun.{first_taken, words_taken}
use Rattle.code_runs.proofs.beginning.add.Goals as goal

pub put_first-requires : goal.put_first-requires
put_first-requires c =
    let t = get_or (sites_in c.args.program.now) c.args.global.site.0 ints in
    first_taken t c.args.global.value c.args.heap.now.words _ c.in-Ok.at _ (ap (λ (h : Words). h.words) c.in-Ok.ensures.words) c.in-Ok.ensures.address c.words_asked.ensures

pub returns-in-Ok-clause-words : goal.returns-in-Ok-clause-words
returns-in-Ok-clause-words c =
    let heap = c.args.heap.now in let value = c.args.global.value in
    let t = get_or (sites_in c.args.program.now) c.args.global.site.0 ints in
    c.put_first.ensures ∙ ap (λ (h : Words). let new : Words = record { words = with_first h.words c.in-Ok.at value; max = h.max } in new) c.in-Ok.ensures.words
    ∙ ap (λ (ws : List ℕ). let new : Words = record { words = ws; max = heap.max } in new) (words_taken t value heap.words c.in-Ok.at _ c.in-Ok.ensures.address c.words_asked.ensures)
