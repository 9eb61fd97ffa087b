use Rattle.std.proofs.Common.{◌≡◌, [], ◌∷◌, ◌++◌, ◌+◌, List, drop, map, get_or, sym, ap, ◌∙◌, refl, arith, append-nil}
use Rattle.base.specs.declared.ids.TypeId.{TypeId}
use Rattle.type_faults.proofs.Lists.{from_there, nothing_left}
use Rattle.function_heads.proofs.heads.type_numbers.Goals as goal
use Rattle.signatures.specs.declared.slots.Slot.{Slot}
use Rattle.signatures.proofs.Items.{no_slot}
use Rattle.function_heads.specs.Heads.{slot_number}
use Rattle.function_heads.proofs.Numbers.{number_more, trees_of}

pub loop-slot-init : goal.loop-slot-init
loop-slot-init c = rw (c.new-numbers.ensures.items) refl

pub loop-slot-preserved : goal.loop-slot-preserved
loop-slot-preserved c =
    let T = c.args.types.now in
    let xs = c.args.slots.now in
    let k = c.loop-slot.slot-index in
    let p : Slot = get_or xs k no_slot in
    let so_far = map (λ (t : TypeId). t.0) c.loop-slot.numbers.items in
    let here : drop k xs ≡ p ∷ drop (k + 1) xs = from_there xs k no_slot c.loop-slot-test.true in
    rw (c.in_ok-push.ensures.items)
    (c.loop-slot.invariant ∙ ap (λ (l : List Slot). so_far ++ map (slot_number T) l) here ∙ number_more c.loop-slot.numbers.items c.number_or_int.result (slot_number T p) (map (slot_number T) (drop (k + 1) xs)) c.number_or_int.ensures)

pub returns-clause-numbers : goal.returns-clause-numbers
returns-clause-numbers c =
    let T = c.args.types.now in
    let xs = c.args.slots.now in
    let k = c.loop-slot.slot-index in
    let so_far = map (λ (t : TypeId). t.0) c.loop-slot.numbers.items in
    let none : drop k xs ≡ [] = nothing_left xs k (λ l. absurd (omega (arith, l, c.loop-slot-test.false))) in
    sym (c.loop-slot.invariant ∙ ap (λ (l : List Slot). so_far ++ map (slot_number T) l) none ∙ append-nil so_far)

pub returns-clause-trees : goal.returns-clause-trees
returns-clause-trees c =
    let T = c.args.types.now in
    let xs = c.args.slots.now in
    let k = c.loop-slot.slot-index in
    let so_far = map (λ (t : TypeId). t.0) c.loop-slot.numbers.items in
    let none : drop k xs ≡ [] = nothing_left xs k (λ l. absurd (omega (arith, l, c.loop-slot-test.false))) in
    trees_of T c.loop-slot.numbers.items xs (sym (c.loop-slot.invariant ∙ ap (λ (l : List Slot). so_far ++ map (slot_number T) l) none ∙ append-nil so_far))
