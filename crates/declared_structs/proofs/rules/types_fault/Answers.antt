use Rattle.std.proofs.Common.{◌≡◌, [], ◌∷◌, ◌+◌, List, drop, subst, arith}
use Rattle.syntax.specs.declared.declaration.Field.{Field}
use Rattle.syntax.specs.Expressions.{ex_of}
use Rattle.syntax.specs.Declarations.{fields_of}
use Rattle.type_faults.proofs.Leasts.{Kept, kept_start, kept_more, kept_end}
use Rattle.type_faults.proofs.Lists.{from_one, nothing_left}
use Rattle.names.specs.Scope.{scope_of}
use Rattle.expression_types.specs.Faults.{StatedFails}
use Rattle.declared_structs.specs.Faults.{FieldTypesFail}
use Rattle.declared_structs.proofs.rules.types_fault.Goals as goal

pub loop-field-init : goal.loop-field-init
loop-field-init c = kept_start _

pub loop-field-preserved : goal.loop-field-preserved
loop-field-preserved c =
    let text = c.args.text.now in
    let s = scope_of c.args.scope.now in
    let xs = c.args.fields.now in
    let k = c.loop-field.field-index in
    let x : Field = c.field-item.result in
    let all = FieldTypesFail text s (fields_of xs) in
    let rest = FieldTypesFail text s (fields_of (drop (k + 1) xs)) in
    let here : drop k xs ≡ x ∷ drop (k + 1) xs = from_one xs k x c.loop-field-test.true c.field-item.is in
    let kept = subst (λ (l : List Field). Kept all (FieldTypesFail text s (fields_of l)) c.loop-field.fault) here c.loop-field.invariant in
    rw (c.lesser-fault.ensures) (kept_more all (StatedFails text s (ex_of x.type_expr)) rest c.loop-field.fault c.in_ok-stated.stated.fault kept c.in_ok-stated.ensures.fault)

pub returns : goal.returns
returns c =
    let text = c.args.text.now in
    let s = scope_of c.args.scope.now in
    let xs = c.args.fields.now in
    let k = c.loop-field.field-index in
    let none : drop k xs ≡ [] = nothing_left xs k (λ l. absurd (omega (arith, l, c.loop-field-test.false))) in
    kept_end (FieldTypesFail text s (fields_of xs)) (FieldTypesFail text s (fields_of (drop k xs))) c.loop-field.fault (λ g h. subst (λ (l : List Field). FieldTypesFail text s (fields_of l) g) none h) c.loop-field.invariant
