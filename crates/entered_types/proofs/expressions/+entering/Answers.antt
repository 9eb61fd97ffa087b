use Rattle.std.proofs.Common.{◌≡◌, [], ◌∷◌, ◌+◌, List, drop, sym, ap, ◌∙◌, arith}
use Rattle.syntax.specs.declared.expression.Expr.{Expr}
use Rattle.syntax.specs.declared.expression.Element.{Element}
use Rattle.syntax.specs.Expressions.{exs_of, elements_of}
use Rattle.type_faults.proofs.Lists.{from_one, nothing_left}
use Rattle.names.specs.Scope.{scope_of}
use Rattle.entered_types.specs.Entered.{entered_each, entered_elements}
use Rattle.entered_types.proofs.Elements.{after_one}
use Rattle.entered_types.proofs.expressions.+entering.Goals as goal

pub enter_each-loop-e-preserved : goal.enter_each-loop-e-preserved
enter_each-loop-e-preserved t c =
    let text = c.args.text.now in
    let xs = c.args.es.now in
    let k = c.loop-e.e-index in
    let x : Expr = c.e-item.result in
    let here : drop k xs ≡ x ∷ drop (k + 1) xs = from_one xs k x c.loop-e-test.true c.e-item.is in
    rw (c.in_ok-enter_expr.ensures) (c.loop-e.invariant ∙ ap (λ (l : List Expr). entered_each text (scope_of c.loop-e.scope) (exs_of l)) here)

pub enter_each-returns : goal.enter_each-returns
enter_each-returns t c =
    let text = c.args.text.now in
    let xs = c.args.es.now in
    let k = c.loop-e.e-index in
    let none : drop k xs ≡ [] = nothing_left xs k (λ l. absurd (omega (arith, l, c.loop-e-test.false))) in
    sym (c.loop-e.invariant ∙ ap (λ (l : List Expr). entered_each text (scope_of c.loop-e.scope) (exs_of l)) none)

pub enter_elements-loop-element-preserved : goal.enter_elements-loop-element-preserved
enter_elements-loop-element-preserved t c =
    let text = c.args.text.now in
    let xs = c.args.list.now in
    let k = c.loop-element.element-index in
    let x : Element = c.element-item.result in
    let s = scope_of c.loop-element.scope in
    let here : drop k xs ≡ x ∷ drop (k + 1) xs = from_one xs k x c.loop-element-test.true c.element-item.is in
    rw (c.in_ok-enter_element.ensures)
    (c.loop-element.invariant ∙ ap (λ (l : List Element). entered_elements text s (elements_of l)) here ∙ after_one text s x (drop (k + 1) xs))

pub enter_elements-returns : goal.enter_elements-returns
enter_elements-returns t c =
    let text = c.args.text.now in
    let xs = c.args.list.now in
    let k = c.loop-element.element-index in
    let none : drop k xs ≡ [] = nothing_left xs k (λ l. absurd (omega (arith, l, c.loop-element-test.false))) in
    sym (c.loop-element.invariant ∙ ap (λ (l : List Element). entered_elements text (scope_of c.loop-element.scope) (elements_of l)) none)
