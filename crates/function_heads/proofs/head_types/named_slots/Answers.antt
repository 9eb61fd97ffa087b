use Rattle.std.proofs.Common.{◌≡◌, [], ◌∷◌, ◌+◌, ◌++◌, List, drop, map, sym, ap, ◌∙◌, append_assoc, append-nil, arith}
use Rattle.std.proofs.lemmas.List.{map-append}
use Rattle.syntax.specs.declared.declaration.Field.{Field}
use Rattle.syntax.specs.Declarations.{field_of, fields_of}
use Rattle.names.specs.Scope.{scope_of}
use Rattle.type_faults.proofs.Lists.{from_one, nothing_left}
use Rattle.function_heads.proofs.head_types.named_slots.Goals as goal
use Rattle.signatures.specs.Signatures.{field_params, named_params}
use Rattle.function_heads.specs.HeadTypes.{slot_of}

pub loop-field-preserved : goal.loop-field-preserved
loop-field-preserved c =
    let text = c.args.text.now in
    let heads = scope_of c.args.heads.now in
    let xs = c.args.fields.now in
    let k = c.loop-field.field-index in
    let x : Field = c.field-item.result in
    let so_far = c.loop-field.slots.items in
    let here : drop k xs ≡ x ∷ drop (k + 1) xs = from_one xs k x c.loop-field-test.true c.field-item.is in
    let own = map (slot_of text heads) (field_params (field_of x)) in
    let rest = named_params (fields_of (drop (k + 1) xs)) in
    rw (c.in_ok-slots.ensures)
    (c.loop-field.invariant ∙ ap (λ (l : List Field). so_far ++ map (slot_of text heads) (named_params (fields_of l))) here ∙ ap (λ l. so_far ++ l) (map-append (slot_of text heads) (field_params (field_of x)) rest)
    ∙ sym (append_assoc so_far own (map (slot_of text heads) rest)))

pub returns : goal.returns
returns c =
    let text = c.args.text.now in
    let heads = scope_of c.args.heads.now in
    let xs = c.args.fields.now in
    let k = c.loop-field.field-index in
    let none : drop k xs ≡ [] = nothing_left xs k (λ l. absurd (omega (arith, l, c.loop-field-test.false))) in
    sym (c.loop-field.invariant ∙ ap (λ (l : List Field). c.loop-field.slots.items ++ map (slot_of text heads) (named_params (fields_of l))) none ∙ append-nil c.loop-field.slots.items)
