use Rattle.std.proofs.Common.{◌≡◌, [], ◌∷◌, ◌+◌, List, drop, get_or, sym, ap, ◌∙◌, arith}
use Rattle.std.specs.Option.{option_map}
use Rattle.type_faults.proofs.Lists.{from_there, nothing_left, joined, joined_start, joined_more, joined_none}
use Rattle.signatures.proofs.slots.types_of.Goals as goal
use Rattle.signatures.specs.declared.slots.Slot.{Slot}
use Rattle.signatures.proofs.Items.{no_slot}
use Rattle.signatures.specs.Signatures.{types_of}

pub loop-slot-init : goal.loop-slot-init
loop-slot-init c = rw (c.new.ensures.items) (sym (joined_start (types_of c.args.slots.now)))

pub loop-slot-preserved : goal.loop-slot-preserved
loop-slot-preserved c =
    let xs = c.args.slots.now in
    let k = c.loop-slot.slot-index in
    let p : Slot = get_or xs k no_slot in
    let so_far = option_map (λ v. v.items) c.loop-slot.types in
    let here : drop k xs ≡ p ∷ drop (k + 1) xs = from_there xs k no_slot c.loop-slot-test.true in
    rw (c.in_ok-types.ensures) (c.loop-slot.invariant ∙ ap (λ (l : List Slot). joined so_far (types_of l)) here ∙ joined_more so_far p.value_type (types_of (drop (k + 1) xs)))

pub returns : goal.returns
returns c =
    let xs = c.args.slots.now in
    let k = c.loop-slot.slot-index in
    let so_far = option_map (λ v. v.items) c.loop-slot.types in
    let none : drop k xs ≡ [] = nothing_left xs k (λ l. absurd (omega (arith, l, c.loop-slot-test.false))) in
    sym (c.loop-slot.invariant ∙ ap (λ (l : List Slot). joined so_far (types_of l)) none ∙ joined_none so_far)
