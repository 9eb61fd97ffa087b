use Rattle.std.proofs.Common.{◌≡◌, [], ◌∷◌, ◌+◌, ◌++◌, List, drop, sym, ap, ◌∙◌, append_assoc, append-nil, arith}
use Rattle.syntax.specs.declared.declaration.Field.{Field}
use Rattle.syntax.specs.Declarations.{fields_of}
use Rattle.type_faults.proofs.Lists.{from_one, nothing_left}
use Rattle.declared_structs.specs.Faults.{field_names}
use Rattle.declared_structs.proofs.rules.field_names.Goals as goal

pub loop-field-preserved : goal.loop-field-preserved
loop-field-preserved c =
    let xs = c.args.fields.now in
    let k = c.loop-field.field-index in
    let x : Field = c.field-item.result in
    let so_far = c.loop-field.names.items in
    let here : drop k xs ≡ x ∷ drop (k + 1) xs = from_one xs k x c.loop-field-test.true c.field-item.is in
    rw (c.in_ok-extend_from_slice.ensures.items, c.deref.ensures.value)
    (c.loop-field.invariant ∙ ap (λ (l : List Field). so_far ++ field_names (fields_of l)) here ∙ sym (append_assoc so_far x.names.items (field_names (fields_of (drop (k + 1) xs)))))

pub returns : goal.returns
returns c =
    let xs = c.args.fields.now in
    let k = c.loop-field.field-index in
    let so_far = c.loop-field.names.items in
    let none : drop k xs ≡ [] = nothing_left xs k (λ l. absurd (omega (arith, l, c.loop-field-test.false))) in
    sym (c.loop-field.invariant ∙ ap (λ (l : List Field). so_far ++ field_names (fields_of l)) none ∙ append-nil so_far)
