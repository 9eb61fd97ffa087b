use Rattle.std.proofs.Common.{◌≡◌, [], ◌∷◌, ◌+◌, List, drop, arith, subst}
use Rattle.std.specs.Option.{option_map}
use Rattle.type_faults.specs.Faults.{IsFault}
use Rattle.type_faults.proofs.Leasts.{Kept, kept_start, kept_more, kept_end, leaf}
use Rattle.type_faults.proofs.Lists.{from_one, nothing_left}
use Rattle.operators.specs.Passing.{operand_of}
use Rattle.operand_parts.specs.declared.literal_values.Placed.{Placed}
use Rattle.operand_parts.specs.LiteralValues.{placed_fault, ElementsFail}
use Rattle.operand_parts.specs.Passing.{placeds}
use Rattle.operand_parts.proofs.literal_values.elements_fault.Goals as goal

pub loop-element-init : goal.loop-element-init
loop-element-init c = kept_start _

pub loop-element-preserved : goal.loop-element-preserved
loop-element-preserved c =
    let xs = c.args.placed.now in
    let q : Placed = c.element-item.result in
    let k = c.loop-element.element-index in
    let own = placed_fault q.pos q.part (option_map operand_of q.operand) in
    let here : drop k xs ≡ q ∷ drop (k + 1) xs = from_one xs k q c.loop-element-test.true c.element-item.is in
    let kept = subst (λ (l : List Placed). Kept (ElementsFail (placeds xs)) (ElementsFail (placeds l)) c.loop-element.fault) here c.loop-element.invariant in
    rw (c.lesser-fault.ensures, c.placed_fault.ensures) (kept_more (ElementsFail (placeds xs)) (IsFault own) (ElementsFail (placeds (drop (k + 1) xs))) c.loop-element.fault _ kept (leaf own))

pub returns : goal.returns
returns c =
    let xs = c.args.placed.now in
    let k = c.loop-element.element-index in
    let none : drop k xs ≡ [] = nothing_left xs k (λ l. absurd (omega (arith, l, c.loop-element-test.false))) in
    kept_end (ElementsFail (placeds xs)) (ElementsFail (placeds (drop k xs))) c.loop-element.fault (λ g h. subst (λ (l : List Placed). ElementsFail (placeds l) g) none h) c.loop-element.invariant
