use Rattle.std.proofs.Common.{◌≡◌, [], ◌∷◌, ◌+◌, List, drop, sym, ap, ◌∙◌, arith}
use Rattle.syntax.specs.declared.declaration.TypeSpec.{TypeSpec}
use Rattle.syntax.specs.Declarations.{type_specs_of}
use Rattle.type_faults.proofs.Lists.{from_one, nothing_left}
use Rattle.names.specs.Scope.{scope_of}
use Rattle.entered_types.specs.Entered.{entered_type_specs}
use Rattle.entered_types.proofs.declarations.enter_type_specs.Goals as goal

pub loop-spec-preserved : goal.loop-spec-preserved
loop-spec-preserved c =
    let text = c.args.text.now in
    let xs = c.args.specs.now in
    let k = c.loop-spec.spec-index in
    let x : TypeSpec = c.spec-item.result in
    let here : drop k xs ≡ x ∷ drop (k + 1) xs = from_one xs k x c.loop-spec-test.true c.spec-item.is in
    rw (c.in_ok-enter_fields.ensures, c.deref.ensures.value) (c.loop-spec.invariant ∙ ap (λ (l : List TypeSpec). entered_type_specs text (scope_of c.loop-spec.scope) (type_specs_of l)) here)

pub returns : goal.returns
returns c =
    let text = c.args.text.now in
    let xs = c.args.specs.now in
    let k = c.loop-spec.spec-index in
    let none : drop k xs ≡ [] = nothing_left xs k (λ l. absurd (omega (arith, l, c.loop-spec-test.false))) in
    sym (c.loop-spec.invariant ∙ ap (λ (l : List TypeSpec). entered_type_specs text (scope_of c.loop-spec.scope) (type_specs_of l)) none)
