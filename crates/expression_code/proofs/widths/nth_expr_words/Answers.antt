use Rattle.std.proofs.Common.{◌≡◌, ◌<◌, ◌≤◌, sym, subst, length}
use Rattle.std.specs.Prelude.{IfOk}
use Rattle.std.proofs.lemmas.Bool.{ltb-true, ltb-false}
use Rattle.typed.specs.View.{program_of}
use Rattle.expression_code.proofs.ByWidth.{nth_value, past_values}
use Rattle.expression_code.proofs.widths.nth_expr_words.Goals as goal

pub returns-in-Some : goal.returns-in-Some
returns-in-Some c =
    let found = c.in-Some.ensures.lookup in
    let there : c.args.i < length c.args.es.now = ltb-true _ _ (sym found.0) in
    subst (λ k. IfOk c.expr_words.result (λ n. n ≡ k)) (sym (nth_value (program_of c.args.program.now) c.args.es.now c.args.i c.in-Some.e.now there found.1)) c.expr_words.ensures

pub returns-in-None : goal.returns-in-None
returns-in-None c =
    let past : length c.args.es.now ≤ c.args.i = ltb-false _ _ (sym c.in-None.ensures.lookup.0) in
    sym (past_values (program_of c.args.program.now) c.args.es.now c.args.i past)
