use Rattle.std.proofs.Common.{◌≡◌, [], ◌∷◌, ◌+◌, ◌++◌, List, cond, drop, get_or, sym, ap, ◌∙◌, append-nil, arith}
use Rattle.names.specs.Scope.{scope_of}
use Rattle.type_faults.proofs.Lists.{from_there, nothing_left}
use Rattle.simple_statements.proofs.declaring.new_slots.Goals as goal
use Rattle.signatures.specs.declared.slots.Slot.{Slot}
use Rattle.signatures.proofs.Items.{no_slot}
use Rattle.simple_statements.specs.SimpleStatements.{slot_declares, new_slots}
use Rattle.simple_statements.proofs.Names.{next_slots}

pub loop-slot-preserved : goal.loop-slot-preserved
loop-slot-preserved c =
    let text = c.args.text.now in
    let s = scope_of c.args.scope.now in
    let xs = c.args.slots.now in
    let k = c.loop-slot.slot-index in
    let p : Slot = get_or xs k no_slot in
    let so_far = c.loop-slot.declared.items in
    let more = c.in_ok-declared.declared.items in
    let here : drop k xs ≡ p ∷ drop (k + 1) xs = from_there xs k no_slot c.loop-slot-test.true in
    let grown : more ≡ cond (slot_declares text s p.name) (so_far ++ p ∷ []) so_far = c.in_ok-declared.ensures in
    c.loop-slot.invariant ∙ ap (λ (l : List Slot). so_far ++ new_slots text s l) here ∙ next_slots (slot_declares text s p.name) so_far more (new_slots text s (drop (k + 1) xs)) p grown

pub returns : goal.returns
returns c =
    let text = c.args.text.now in
    let s = scope_of c.args.scope.now in
    let xs = c.args.slots.now in
    let k = c.loop-slot.slot-index in
    let so_far = c.loop-slot.declared.items in
    let none : drop k xs ≡ [] = nothing_left xs k (λ l. absurd (omega (arith, l, c.loop-slot-test.false))) in
    sym (c.loop-slot.invariant ∙ ap (λ (l : List Slot). so_far ++ new_slots text s l) none ∙ append-nil so_far)
