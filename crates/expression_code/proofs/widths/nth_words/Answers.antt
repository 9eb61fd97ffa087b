use Rattle.std.proofs.Common.{◌<◌, ◌≤◌, ◌∙◌, sym, length}
use Rattle.std.proofs.lemmas.Bool.{ltb-true, ltb-false}
use Rattle.typed.specs.Trees.{trees}
use Rattle.expression_code.proofs.ByWidth.{nth_width, past_widths}
use Rattle.expression_code.proofs.widths.nth_words.Goals as goal

pub returns-in-Some : goal.returns-in-Some
returns-in-Some c =
    let found = c.in-Some.ensures.lookup in
    let there : c.args.i < length c.args.types.now = ltb-true _ _ (sym found.0) in
    c.from.ensures ∙ c.width.ensures ∙ sym (nth_width (trees c.args.program.now.types) c.args.types.now c.args.i c.in-Some.type_id.now there found.1)

pub returns-in-None : goal.returns-in-None
returns-in-None c =
    let past : length c.args.types.now ≤ c.args.i = ltb-false _ _ (sym c.in-None.ensures.lookup.0) in
    sym (past_widths (trees c.args.program.now.types) c.args.types.now c.args.i past)
