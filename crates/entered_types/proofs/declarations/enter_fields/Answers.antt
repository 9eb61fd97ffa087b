use Rattle.std.proofs.Common.{◌≡◌, [], ◌∷◌, ◌+◌, List, drop, sym, ap, ◌∙◌, arith}
use Rattle.syntax.specs.declared.declaration.Field.{Field}
use Rattle.syntax.specs.Declarations.{fields_of}
use Rattle.type_faults.proofs.Lists.{from_one, nothing_left}
use Rattle.names.specs.Scope.{scope_of}
use Rattle.entered_types.specs.Entered.{entered_fields}
use Rattle.entered_types.proofs.declarations.enter_fields.Goals as goal

pub loop-field-preserved : goal.loop-field-preserved
loop-field-preserved c =
    let text = c.args.text.now in
    let xs = c.args.fields.now in
    let k = c.loop-field.field-index in
    let x : Field = c.field-item.result in
    let here : drop k xs ≡ x ∷ drop (k + 1) xs = from_one xs k x c.loop-field-test.true c.field-item.is in
    rw (c.in_ok-enter_expr.ensures) (c.loop-field.invariant ∙ ap (λ (l : List Field). entered_fields text (scope_of c.loop-field.scope) (fields_of l)) here)

pub returns : goal.returns
returns c =
    let text = c.args.text.now in
    let xs = c.args.fields.now in
    let k = c.loop-field.field-index in
    let none : drop k xs ≡ [] = nothing_left xs k (λ l. absurd (omega (arith, l, c.loop-field-test.false))) in
    sym (c.loop-field.invariant ∙ ap (λ (l : List Field). entered_fields text (scope_of c.loop-field.scope) (fields_of l)) none)
