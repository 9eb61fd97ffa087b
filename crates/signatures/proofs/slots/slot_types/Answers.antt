use Rattle.std.proofs.Common.{◌≡◌, [], ◌∷◌, ◌+◌, ◌++◌, List, drop, map, get_or, sym, ap, ◌∙◌, append_assoc, append-nil, arith}
use Rattle.type_faults.proofs.Lists.{from_there, nothing_left}
use Rattle.signatures.proofs.slots.slot_types.Goals as goal
use Rattle.signatures.specs.declared.slots.Slot.{Slot}
use Rattle.signatures.proofs.Items.{no_slot}

pub loop-slot-preserved : goal.loop-slot-preserved
loop-slot-preserved c =
    let xs = c.args.slots.now in
    let k = c.loop-slot.slot-index in
    let p : Slot = get_or xs k no_slot in
    let so_far = c.loop-slot.types.items in
    let here : drop k xs ≡ p ∷ drop (k + 1) xs = from_there xs k no_slot c.loop-slot-test.true in
    rw (c.in_ok-push.ensures.items)
    (c.loop-slot.invariant ∙ ap (λ (l : List Slot). so_far ++ map (λ (q : Slot). q.value_type) l) here ∙ sym (append_assoc so_far (p.value_type ∷ []) (map (λ (q : Slot). q.value_type) (drop (k + 1) xs))))

pub returns : goal.returns
returns c =
    let xs = c.args.slots.now in
    let k = c.loop-slot.slot-index in
    let so_far = c.loop-slot.types.items in
    let none : drop k xs ≡ [] = nothing_left xs k (λ l. absurd (omega (arith, l, c.loop-slot-test.false))) in
    sym (c.loop-slot.invariant ∙ ap (λ (l : List Slot). so_far ++ map (λ (q : Slot). q.value_type) l) none ∙ append-nil so_far)
