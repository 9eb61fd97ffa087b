use Rattle.std.proofs.Common.{arith, sym, ap, ◌∙◌}
use Rattle.std.proofs.lemmas.List.{take_rest}
use Rattle.scan_go.specs.Strings.{fault_at}
use Rattle.scan_go.proofs.StringEnd.{fault_here, fault_later, no_fault, after-zero}
use Rattle.scan_go.proofs.string.fault_within.Goals as goal

pub loop-i-init : goal.loop-i-init
loop-i-init c = after-zero _

pub returns-in-Some-clause-value : goal.returns-in-Some-clause-value
returns-in-Some-clause-value c =
    sym (fault_here c.args.content.now c.loop-i.hidden c.loop-i.i c.in-Some.kind (omega arith)
    (ap (fault_at c.loop-i.hidden) (sym (take_rest c.args.content.now c.loop-i.i)) ∙ sym c.fault_at.ensures ∙ c.in-Some.is)) ∙ c.loop-i.invariant

pub loop-i-preserved : goal.loop-i-preserved
loop-i-preserved c =
    rw c.hides-hidden.ensures (sym (fault_later c.args.content.now c.loop-i.hidden c.loop-i.i (omega arith)
    (ap (fault_at c.loop-i.hidden) (sym (take_rest c.args.content.now c.loop-i.i)) ∙ sym c.fault_at.ensures ∙ c.in_default.is)) ∙ c.loop-i.invariant)

pub returns-clause-value : goal.returns-clause-value
returns-clause-value c = sym (no_fault c.args.content.now c.loop-i.hidden c.loop-i.i (omega arith)) ∙ c.loop-i.invariant
