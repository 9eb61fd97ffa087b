use Rattle.std.proofs.Common.{◌≡◌, [], ◌∷◌, ◌+◌, ◌++◌, List, drop, sym, ap, ◌∙◌, subst, append_assoc, append-nil, arith}
use Rattle.syntax.specs.declared.expression.Name.{Name}
use Rattle.syntax.specs.declared.expression.Expr.{Expr}
use Rattle.syntax.specs.declared.expression.Element.{Element}
use Rattle.syntax.specs.Expressions.{ex_of, exs_of, elements_of, call, literal}
use Rattle.syntax.proofs.Views.{expr_rows}
use Rattle.type_faults.proofs.Leasts.{if_ok}
use Rattle.type_faults.proofs.Lists.{from_one, nothing_left}
use Rattle.package_values.specs.Needs.{names_in, names_in_each, names_in_elements}
use Rattle.package_values.specs.Passing.{names_in_element}
use Rattle.package_values.proofs.ItemLists.{names_in_one}
use Rattle.package_values.proofs.needs.+names.Goals as goal

pub add_names-returns-in_ok-add_names-in-Call : goal.add_names-returns-in_ok-add_names-in-Call
add_names-returns-in_ok-add_names-in-Call t c =
    let so_far = c.args.names.now.items in
    let f : Expr = c.in-Call.function.value in
    let es : List Expr = c.in-Call.arguments.items in
    let first = c.add_names-in-Call.new.names.items in
    let shape : ex_of c.args.e.now ≡ call (ex_of f) (exs_of es) c.in-Call.field-2 = grind (arith, expr_rows) in
    let first_is : first ≡ so_far ++ names_in (ex_of f) = subst (λ (x : Expr). first ≡ so_far ++ names_in (ex_of x)) c.deref-in-Call.ensures c.in_ok-add_names-in-Call.ensures in
    rw (shape)
    (if_ok _ _ c.add_names_in_each.result
    (λ u e.
    e ∙ ap (λ (l : List Expr). first ++ names_in_each (exs_of l)) c.deref-in-Call-2.ensures.value ∙ ap (λ (l : List Name). l ++ names_in_each (exs_of es)) first_is
    ∙ append_assoc so_far (names_in (ex_of f)) (names_in_each (exs_of es))) c.add_names_in_each.ensures)

pub add_names-returns-in_ok-add_names-in-Literal : goal.add_names-returns-in_ok-add_names-in-Literal
add_names-returns-in_ok-add_names-in-Literal t c =
    let so_far = c.args.names.now.items in
    let f : Expr = c.in-Literal.type_expr.value in
    let es : List Element = c.in-Literal.list.items in
    let first = c.add_names-in-Literal.new.names.items in
    let shape : ex_of c.args.e.now ≡ literal (ex_of f) (elements_of es) = grind (arith, expr_rows) in
    let first_is : first ≡ so_far ++ names_in (ex_of f) = subst (λ (x : Expr). first ≡ so_far ++ names_in (ex_of x)) c.deref-in-Literal.ensures c.in_ok-add_names-in-Literal.ensures in
    rw (shape)
    (if_ok _ _ c.add_names_in_elements.result
    (λ u e.
    e ∙ ap (λ (l : List Element). first ++ names_in_elements (elements_of l)) c.deref-in-Literal-2.ensures.value ∙ ap (λ (l : List Name). l ++ names_in_elements (elements_of es)) first_is
    ∙ append_assoc so_far (names_in (ex_of f)) (names_in_elements (elements_of es))) c.add_names_in_elements.ensures)

pub add_names_in_each-loop-e-preserved : goal.add_names_in_each-loop-e-preserved
add_names_in_each-loop-e-preserved t c =
    let xs = c.args.es.now in
    let k = c.loop-e.e-index in
    let x : Expr = c.e-item.result in
    let so_far = c.loop-e.names.items in
    let rest = names_in_each (exs_of (drop (k + 1) xs)) in
    let here : drop k xs ≡ x ∷ drop (k + 1) xs = from_one xs k x c.loop-e-test.true c.e-item.is in
    c.loop-e.invariant ∙ ap (λ (l : List Expr). so_far ++ names_in_each (exs_of l)) here ∙ sym (append_assoc so_far (names_in (ex_of x)) rest) ∙ ap (λ l. l ++ rest) (sym c.in_ok-add_names.ensures)

pub add_names_in_each-returns : goal.add_names_in_each-returns
add_names_in_each-returns t c =
    let xs = c.args.es.now in
    let k = c.loop-e.e-index in
    let so_far = c.loop-e.names.items in
    let none : drop k xs ≡ [] = nothing_left xs k (λ l. absurd (omega (arith, l, c.loop-e-test.false))) in
    sym (c.loop-e.invariant ∙ ap (λ (l : List Expr). so_far ++ names_in_each (exs_of l)) none ∙ append-nil so_far)

pub add_names_in_elements-loop-element-preserved : goal.add_names_in_elements-loop-element-preserved
add_names_in_elements-loop-element-preserved t c =
    let xs = c.args.list.now in
    let k = c.loop-element.element-index in
    let x : Element = c.element-item.result in
    let so_far = c.loop-element.names.items in
    let rest = names_in_elements (elements_of (drop (k + 1) xs)) in
    let here : drop k xs ≡ x ∷ drop (k + 1) xs = from_one xs k x c.loop-element-test.true c.element-item.is in
    c.loop-element.invariant ∙ ap (λ (l : List Element). so_far ++ names_in_elements (elements_of l)) here ∙ ap (λ l. so_far ++ l) (names_in_one x (drop (k + 1) xs))
    ∙ sym (append_assoc so_far (names_in_element x) rest) ∙ ap (λ l. l ++ rest) (sym c.in_ok-add_names_in_element.ensures)

pub add_names_in_elements-returns : goal.add_names_in_elements-returns
add_names_in_elements-returns t c =
    let xs = c.args.list.now in
    let k = c.loop-element.element-index in
    let so_far = c.loop-element.names.items in
    let none : drop k xs ≡ [] = nothing_left xs k (λ l. absurd (omega (arith, l, c.loop-element-test.false))) in
    sym (c.loop-element.invariant ∙ ap (λ (l : List Element). so_far ++ names_in_elements (elements_of l)) none ∙ append-nil so_far)
