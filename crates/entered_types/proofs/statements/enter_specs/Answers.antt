use Rattle.std.proofs.Common.{◌≡◌, [], ◌∷◌, ◌+◌, List, drop, sym, ap, ◌∙◌, arith}
use Rattle.syntax.specs.declared.statement.ValueSpec.{ValueSpec}
use Rattle.syntax.specs.Statements.{value_specs_of}
use Rattle.type_faults.proofs.Lists.{from_one, nothing_left}
use Rattle.names.specs.Scope.{scope_of}
use Rattle.entered_types.specs.Entered.{entered_specs}
use Rattle.entered_types.proofs.statements.enter_specs.Goals as goal

pub loop-spec-preserved : goal.loop-spec-preserved
loop-spec-preserved c =
    let text = c.args.text.now in
    let xs = c.args.specs.now in
    let k = c.loop-spec.spec-index in
    let x : ValueSpec = c.spec-item.result in
    let here : drop k xs ≡ x ∷ drop (k + 1) xs = from_one xs k x c.loop-spec-test.true c.spec-item.is in
    rw (c.in_ok-enter_spec.ensures) (c.loop-spec.invariant ∙ ap (λ (l : List ValueSpec). entered_specs text (scope_of c.loop-spec.scope) (value_specs_of l)) here)

pub returns : goal.returns
returns c =
    let text = c.args.text.now in
    let xs = c.args.specs.now in
    let k = c.loop-spec.spec-index in
    let none : drop k xs ≡ [] = nothing_left xs k (λ l. absurd (omega (arith, l, c.loop-spec-test.false))) in
    sym (c.loop-spec.invariant ∙ ap (λ (l : List ValueSpec). entered_specs text (scope_of c.loop-spec.scope) (value_specs_of l)) none)
