use Rattle.std.proofs.Common.{◌≡◌, [], ◌∷◌, ◌+◌, ◌++◌, List, drop, map, get_or, sym, ap, ◌∙◌, append_assoc, append-nil, arith}
use Rattle.syntax.specs.declared.expression.Name.{Name}
use Rattle.type_faults.proofs.Lists.{from_there, nothing_left}
use Rattle.names.proofs.Places.{no_name}
use Rattle.signatures.proofs.slots.slots_with.Goals as goal
use Rattle.signatures.specs.Entries.{slot_with}

pub loop-name-preserved : goal.loop-name-preserved
loop-name-preserved c =
    let t = c.args.value_type in
    let xs = c.args.names.now in
    let k = c.loop-name.name-index in
    let n : Name = get_or xs k no_name in
    let so_far = c.loop-name.slots.items in
    let here : drop k xs ≡ n ∷ drop (k + 1) xs = from_there xs k no_name c.loop-name-test.true in
    rw (c.in_ok-push.ensures.items, c.slot_with.ensures)
    (c.loop-name.invariant ∙ ap (λ (l : List Name). so_far ++ map (slot_with t) l) here ∙ sym (append_assoc so_far (slot_with t n ∷ []) (map (slot_with t) (drop (k + 1) xs))))

pub returns : goal.returns
returns c =
    let t = c.args.value_type in
    let xs = c.args.names.now in
    let k = c.loop-name.name-index in
    let so_far = c.loop-name.slots.items in
    let none : drop k xs ≡ [] = nothing_left xs k (λ l. absurd (omega (arith, l, c.loop-name-test.false))) in
    sym (c.loop-name.invariant ∙ ap (λ (l : List Name). so_far ++ map (slot_with t) l) none ∙ append-nil so_far)
