use Rattle.std.proofs.Common.{arith, sym, ap, ◌∙◌}
use Rattle.std.proofs.lemmas.List.{take_rest}
use Rattle.scan_go.specs.Words.{goes_on}
use Rattle.scan_go.proofs.WordEnd.{end_later, end_here, end_nowhere}
use Rattle.scan_go.proofs.word.word_len.Goals as goal

pub loop-i-preserved : goal.loop-i-preserved
loop-i-preserved c =
    sym (end_later c.args.rest.now c.loop-i.i (omega arith) (ap goes_on (sym (take_rest c.args.rest.now c.loop-i.i)) ∙ sym c.goes_on.ensures ∙ c.if-not-goes_on.false)) ∙ c.loop-i.invariant

pub returns-then-not-goes_on-clause-value : goal.returns-then-not-goes_on-clause-value
returns-then-not-goes_on-clause-value c =
    sym (end_here c.args.rest.now c.loop-i.i (omega arith) (ap goes_on (sym (take_rest c.args.rest.now c.loop-i.i)) ∙ sym c.goes_on.ensures ∙ c.if-not-goes_on.true)) ∙ c.loop-i.invariant

pub returns-clause-value : goal.returns-clause-value
returns-clause-value c = omega (arith, end_nowhere c.args.rest.now c.loop-i.i (omega arith), c.loop-i.invariant, c.loop-i.auto.i-end)
