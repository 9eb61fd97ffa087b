use Rattle.std.proofs.Common.{◌≡◌, [], ◌∷◌, ◌+◌, ◌++◌, List, drop, sym, ap, ◌∙◌, append_assoc, append-nil, arith}
use Rattle.syntax.specs.declared.declaration.Field.{Field}
use Rattle.syntax.specs.Declarations.{field_of, fields_of}
use Rattle.names.specs.Scope.{scope_of}
use Rattle.type_faults.proofs.Lists.{from_one, nothing_left}
use Rattle.declared_structs.specs.Forms.{field_types, struct_types}
use Rattle.declared_structs.specs.Passing.{views}
use Rattle.declared_structs.proofs.forms.struct_of.Goals as goal

pub loop-field-preserved : goal.loop-field-preserved
loop-field-preserved c =
    let text = c.args.text.now in
    let s = scope_of c.args.scope.now in
    let xs = c.args.fields.now in
    let k = c.loop-field.field-index in
    let x : Field = c.field-item.result in
    let so_far = views c.loop-field.types.items in
    let here : drop k xs ≡ x ∷ drop (k + 1) xs = from_one xs k x c.loop-field-test.true c.field-item.is in
    let rest = struct_types text s (fields_of (drop (k + 1) xs)) in
    rw (c.in_ok-add_field.ensures)
    (c.loop-field.invariant ∙ ap (λ (l : List Field). so_far ++ struct_types text s (fields_of l)) here ∙ sym (append_assoc so_far (field_types text s (field_of x)) rest))

pub returns : goal.returns
returns c =
    let text = c.args.text.now in
    let s = scope_of c.args.scope.now in
    let xs = c.args.fields.now in
    let k = c.loop-field.field-index in
    let so_far = views c.loop-field.types.items in
    let none : drop k xs ≡ [] = nothing_left xs k (λ l. absurd (omega (arith, l, c.loop-field-test.false))) in
    sym (c.loop-field.invariant ∙ ap (λ (l : List Field). so_far ++ struct_types text s (fields_of l)) none ∙ append-nil so_far)
