use Rattle.std.proofs.Common.{arith, sym, ap, ◌∙◌, length}
use Rattle.std.proofs.lemmas.List.{take_rest}
use Rattle.scan_go.specs.Pieces.{piece_at}
use Rattle.scan_go.proofs.Whole.{after_gap, after_token, at_fault, at_end, at_start, order_at_end}
use Rattle.scan_go.proofs.lexing.lexemes.Goals as goal

pub loop-place-preserved-in-Gap : goal.loop-place-preserved-in-Gap
loop-place-preserved-in-Gap c =
    let rest = take_rest c.args.text.now c.loop-place.place in
    after_gap c.args.text.now c.loop-place.found.items c.loop-place.place c.loop-place.invariant (omega arith) c.in-Gap.len (ap piece_at (sym rest) ∙ sym c.in-Gap.ensures.value) (omega (arith, ap length rest, c.in-Gap.ensures.within.1))

pub loop-place-preserved : goal.loop-place-preserved
loop-place-preserved c =
    let rest = take_rest c.args.text.now c.loop-place.place in
    rw c.in_ok-push-in-Token.ensures.items (after_token c.args.text.now c.loop-place.found.items c.loop-place.place c.loop-place.invariant (omega arith) c.in-Token.kind c.in-Token.len (ap piece_at (sym rest) ∙ sym c.in-Token.ensures.value) c.in-Token.ensures.within.0 (omega (arith, ap length rest, c.in-Token.ensures.within.1)))

pub loop-place-init : goal.loop-place-init
loop-place-init c =
    rw (c.new-found.ensures.items, c.mark_len-place.ensures.value) (at_start c.args.text.now (rw c.mark_len-place.ensures.value at c.mark_len-place.ensures.within))

pub returns-in-Fault-clause-found : goal.returns-in-Fault-clause-found
returns-in-Fault-clause-found c =
    let rest = take_rest c.args.text.now c.loop-place.place in
    at_fault c.args.text.now c.loop-place.found.items c.loop-place.place c.loop-place.invariant (omega arith) c.in-Fault.kind c.in-Fault.len (ap piece_at (sym rest) ∙ sym c.in-Fault.ensures.value) (omega (arith, ap length rest, c.in-Fault.ensures.within))

pub returns-clause-found : goal.returns-clause-found
returns-clause-found c = at_end c.args.text.now c.loop-place.found.items c.loop-place.place c.loop-place.invariant (omega arith)

pub returns-clause-order : goal.returns-clause-order
returns-clause-order c = order_at_end c.args.text.now c.loop-place.found.items c.loop-place.place c.loop-place.invariant
