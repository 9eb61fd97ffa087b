use Rattle.std.proofs.Common.{◌≡◌, [], ◌∷◌, ◌+◌, List, drop, get_or, sym, ap, ◌∙◌, arith}
use Rattle.names.specs.Scope.{scope_of}
use Rattle.type_faults.proofs.Lists.{from_there, nothing_left}
use Rattle.simple_statements.proofs.declaring.declare_variables.Goals as goal
use Rattle.signatures.specs.declared.slots.Slot.{Slot}
use Rattle.signatures.proofs.Items.{no_slot}
use Rattle.simple_statements.specs.SimpleStatements.{with_variables}

pub loop-slot-preserved : goal.loop-slot-preserved
loop-slot-preserved c =
    let text = c.args.text.now in
    let xs = c.args.slots.now in
    let k = c.loop-slot.slot-index in
    let p : Slot = get_or xs k no_slot in
    let here : drop k xs ≡ p ∷ drop (k + 1) xs = from_there xs k no_slot c.loop-slot-test.true in
    rw (c.in_ok-declare_slot.ensures) (c.loop-slot.invariant ∙ ap (λ (l : List Slot). with_variables text (scope_of c.loop-slot.scope) l) here)

pub returns : goal.returns
returns c =
    let text = c.args.text.now in
    let xs = c.args.slots.now in
    let k = c.loop-slot.slot-index in
    let none : drop k xs ≡ [] = nothing_left xs k (λ l. absurd (omega (arith, l, c.loop-slot-test.false))) in
    sym (c.loop-slot.invariant ∙ ap (λ (l : List Slot). with_variables text (scope_of c.loop-slot.scope) l) none)
