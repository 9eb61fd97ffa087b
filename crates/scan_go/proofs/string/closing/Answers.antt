use Rattle.std.proofs.Common.{arith, sym, ◌∙◌}
use Rattle.scan_go.proofs.StringEnd.{ends_line, ends_here, ends_later, no_end, later-zero}
use Rattle.scan_go.proofs.string.closing.Goals as goal

pub loop-i-init : goal.loop-i-init
loop-i-init c = later-zero _

pub returns-then-not-is_within_line-clause-value : goal.returns-then-not-is_within_line-clause-value
returns-then-not-is_within_line-clause-value c =
    sym (ends_line c.args.after.now c.loop-i.hidden c.loop-i.i (omega arith) (sym c.is_within_line.ensures ∙ c.if-not-is_within_line.true)) ∙ c.loop-i.invariant

pub returns-then-closes-clause-value : goal.returns-then-closes-clause-value
returns-then-closes-clause-value c =
    sym (ends_here c.args.after.now c.loop-i.hidden c.loop-i.i (omega arith) (sym c.is_within_line.ensures ∙ c.if-not-is_within_line.false) (sym c.closes.ensures ∙ c.if-closes.true)) ∙ c.loop-i.invariant

pub loop-i-preserved : goal.loop-i-preserved
loop-i-preserved c =
    rw c.hides-hidden.ensures (sym (ends_later c.args.after.now c.loop-i.hidden c.loop-i.i (omega arith) (sym c.is_within_line.ensures ∙ c.if-not-is_within_line.false) (sym c.closes.ensures ∙ c.if-closes.false)) ∙ c.loop-i.invariant)

pub returns-clause-value : goal.returns-clause-value
returns-clause-value c = sym (no_end c.args.after.now c.loop-i.hidden c.loop-i.i (omega arith)) ∙ c.loop-i.invariant
