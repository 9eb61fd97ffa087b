use Rattle.std.proofs.Common.{◌≡◌, [], ◌∷◌, ◌+◌, List, drop, sym, ap, ◌∙◌, arith}
use Rattle.syntax.specs.declared.declaration.Field.{Field}
use Rattle.syntax.specs.Declarations.{fields_of}
use Rattle.type_faults.proofs.Lists.{from_one, nothing_left}
use Rattle.signatures.proofs.structs.add_fields.Goals as goal
use Rattle.signatures.specs.Structs.{with_fields}

pub loop-field-preserved : goal.loop-field-preserved
loop-field-preserved c =
    let text = c.args.text.now in
    let xs = c.args.fields.now in
    let k = c.loop-field.field-index in
    let x : Field = c.field-item.result in
    let here : drop k xs ≡ x ∷ drop (k + 1) xs = from_one xs k x c.loop-field-test.true c.field-item.is in
    rw (c.in_ok-add_field_names.ensures, c.deref.ensures.value) (c.loop-field.invariant ∙ ap (λ (l : List Field). with_fields text c.loop-field.noted (fields_of l)) here)

pub returns : goal.returns
returns c =
    let text = c.args.text.now in
    let xs = c.args.fields.now in
    let k = c.loop-field.field-index in
    let none : drop k xs ≡ [] = nothing_left xs k (λ l. absurd (omega (arith, l, c.loop-field-test.false))) in
    sym (c.loop-field.invariant ∙ ap (λ (l : List Field). with_fields text c.loop-field.noted (fields_of l)) none)
