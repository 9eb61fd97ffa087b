use Rattle.std.proofs.Common.{◌≡◌, suc, [], ◌∷◌, ◌+◌, ◌++◌, List, Option, drop, length, get_or, sym, ap, ◌∙◌, append_assoc, append-nil, length-append, arith}
use Rattle.std.specs.Prelude.{option_and_then, slice_get}
use Rattle.std.specs.Option.{option_map}
use Rattle.syntax.specs.declared.expression.Name.{Name}
use Rattle.base.specs.declared.value_type.ValueType.{ValueType}
use Rattle.type_faults.proofs.Lists.{from_there, nothing_left}
use Rattle.names.proofs.Places.{no_name}
use Rattle.signatures.proofs.slots.slots_each.Goals as goal
use Rattle.signatures.specs.declared.slots.Slot.{Slot}
use Rattle.signatures.specs.Entries.{slot_with, first_type, slots_each}
use Rattle.signatures.proofs.Items.{types_from, first_is, later_is, from_start}

pub loop-name-init : goal.loop-name-init
loop-name-init c =
    let ts = option_map (λ v. v.items) c.args.types.now in
    rw (c.new-slots.ensures.items) (ap (λ (o : Option (List ValueType)). slots_each o c.args.names.now) (sym (from_start ts)))

pub loop-name-preserved : goal.loop-name-preserved
loop-name-preserved c =
    let ts = option_map (λ v. v.items) c.args.types.now in
    let xs = c.args.names.now in
    let k = c.loop-name.name-index in
    let n : Name = get_or xs k no_name in
    let rest = drop (k + 1) xs in
    let so_far = c.loop-name.slots.items in
    let i = length so_far in
    let slot : Slot = slot_with (first_type (types_from i ts)) n in
    let long : suc i ≡ length (so_far ++ slot ∷ []) = let l = length-append so_far (slot ∷ []) in omega (arith, l) in
    let here : drop k xs ≡ n ∷ rest = from_there xs k no_name c.loop-name-test.true in
    let typed : c.type_at-value_type.result ≡ first_type (types_from i ts) =
    c.type_at-value_type.ensures ∙ ap (λ j. option_and_then (λ (l : List ValueType). slice_get l j) ts) c.slot_count.ensures ∙ sym (first_is ts i) in
    rw (c.in_ok-push.ensures.items, c.slot_with.ensures, typed)
    (c.loop-name.invariant ∙ ap (λ (l : List Name). so_far ++ slots_each (types_from i ts) l) here
    ∙ ap (λ (o : Option (List ValueType)). so_far ++ (slot ∷ slots_each o rest)) (later_is ts i)
    ∙ ap (λ j. so_far ++ (slot ∷ slots_each (types_from j ts) rest)) long
    ∙ sym (append_assoc so_far (slot ∷ []) (slots_each (types_from (length (so_far ++ slot ∷ [])) ts) rest)))

pub returns : goal.returns
returns c =
    let ts = option_map (λ v. v.items) c.args.types.now in
    let xs = c.args.names.now in
    let k = c.loop-name.name-index in
    let so_far = c.loop-name.slots.items in
    let none : drop k xs ≡ [] = nothing_left xs k (λ l. absurd (omega (arith, l, c.loop-name-test.false))) in
    sym (c.loop-name.invariant ∙ ap (λ (l : List Name). so_far ++ slots_each (types_from (length so_far) ts) l) none ∙ append-nil so_far)
