use Rattle.std.proofs.Common.{◌≡◌, ◌⊎◌, IfOk, [], ◌∷◌, ◌++◌, ◌+◌, List, drop, true, false, Option, Some, None, sym, ap, ◌∙◌, subst, refl, arith, append-nil, rules}
use Rattle.std.specs.Option.{option_map, option_and_then}
use Rattle.base.specs.declared.pos.Pos.{Pos}
use Rattle.syntax.specs.declared.expression.Expr.{Expr}
use Rattle.syntax.specs.declared.expression.Element.{Element}
use Rattle.base.specs.declared.value_type.ValueType.{ValueType}
use Rattle.type_faults.specs.declared.fault.Fault.{Fault}
use Rattle.syntax.specs.FirstBytes.{first_pos}
use Rattle.syntax.specs.Expressions.{Elements as TreeElements, ex_of, exs_of, elements_of, binary, call, index, literal, elements}
use Rattle.syntax.proofs.Views.{expr_rows}
use Rattle.type_faults.specs.Least.{IsLeast, IsLesserWith, lesser}
use Rattle.type_faults.specs.Faults.{IsFault, FormFails}
use Rattle.type_faults.proofs.Leasts.{Kept, kept_start, kept_more, kept_end, least_join, if_ok, leaf}
use Rattle.operators.specs.Operators.{has_rules}
use Rattle.operators.specs.Faults.{pair_fault}
use Rattle.operators.specs.Passing.{operand_of}
use Rattle.operand_parts.specs.PartFaults.{index_fault}
use Rattle.operand_parts.specs.Literals.{type_elided, elided, element_part}
use Rattle.operand_parts.specs.LiteralFaults.{ShapeFails}
use Rattle.operand_parts.specs.LiteralValues.{Placed, ElementsFail}
use Rattle.operand_parts.specs.declared.literal_values.Placed.{Placed as PlacedData}
use Rattle.operand_parts.specs.Passing.{elision_of, placed_of, placeds}
use Rattle.names.specs.Scope.{scope_of}
use Rattle.names.specs.Naming.{name_in}
use Rattle.given_values.specs.declared.gives.Item.{Item}
use Rattle.expression_types.specs.declared.expressions.Checked.{Checked}
use Rattle.given_values.specs.Given.{operand_in, callee, spread_over}
use Rattle.expression_types.specs.Typing.{early_gives, gives, stated_type, placed, element_gives, seen}
use Rattle.given_values.specs.GivenFaults.{CallFails, CalleeFails, single_fault}
use Rattle.expression_types.specs.Faults.{quiet_fault, FailsEarly, Fails, FailsInEach, FailsAsOperand, StatedFails, FailsInElements, FailsInLiteral, FailsInElement}
use Rattle.given_values.specs.Passing.{gives_of, callee_of, seen_of, seens}
use Rattle.expression_types.specs.Passing.{key_in, element_value, is_bare, IsLiteralFault}
use Rattle.type_faults.proofs.Lists.{from_one, nothing_left}
use Rattle.given_values.proofs.Items.{pushed}
use Rattle.expression_types.proofs.LiteralNodes.{typed_least, placed_next, fails_next, elements_next, literal_least, elements_least, elided_least, array_least, placed_pushed}
use Rattle.expression_types.proofs.Nodes.{unary_least, binary_least, selector_least, index_least, call_least, length_least}
use Rattle.expression_types.proofs.expressions.+expressions.Goals as goal
use Rattle.operand_parts.specs.ArrayTypes.{length_of, array_with}
use Rattle.operators.specs.Operands.{Operand}

pub check_callee-returns-in_ok-callee-in-Some-clause-fault : goal.check_callee-returns-in_ok-callee-in-Some-clause-fault
check_callee-returns-in_ok-callee-in-Some-clause-fault t c =
    let is : name_in (ex_of c.args.e.now) ≡ Some c.in-Some.name = sym c.name_in.ensures ∙ c.in-Some.is in
    rw (is) c.callee_name_fault.ensures

pub check_callee-returns-in_ok-checked-in-None-clause-fault : goal.check_callee-returns-in_ok-checked-in-None-clause-fault
check_callee-returns-in_ok-checked-in-None-clause-fault t c =
    let is : name_in (ex_of c.args.e.now) ≡ None = sym c.name_in.ensures ∙ c.in-None.is in
    rw (is) c.in_ok-checked-in-None.ensures.fault

pub check_expr-returns-in-Name-clause-fault : goal.check_expr-returns-in-Name-clause-fault
check_expr-returns-in-Name-clause-fault t c = rw (c.in-Name.is) c.named.ensures.fault

pub check_expr-returns-in_ok-right-in-Binary-clause-fault : goal.check_expr-returns-in_ok-right-in-Binary-clause-fault
check_expr-returns-in_ok-right-in-Binary-clause-fault t c =
    let text = c.args.text.now in
    let s = scope_of c.args.scope.now in
    let op = c.in-Binary.op in
    let a : Expr = c.in-Binary.left.value in
    let b : Expr = c.in-Binary.right.value in
    let left = c.in_ok-left-in-Binary.left in
    let right = c.in_ok-right-in-Binary.right in
    let o = option_map operand_of left.operand in
    let p = option_map operand_of right.operand in
    let l : IsLeast (FailsAsOperand text s (ex_of a)) left.fault = subst (λ (x : Expr). IsLeast (FailsAsOperand text s (ex_of x)) left.fault) c.deref-in-Binary.ensures c.in_ok-left-in-Binary.ensures.fault in
    let r : IsLeast (FailsAsOperand text s (ex_of b)) right.fault = subst (λ (x : Expr). IsLeast (FailsAsOperand text s (ex_of x)) right.fault) c.deref-in-Binary-2.ensures c.in_ok-right-in-Binary.ensures.fault in
    let o_is : o ≡ operand_in (gives text s (ex_of a)) = subst (λ (x : Expr). o ≡ operand_in (gives text s (ex_of x))) c.deref-in-Binary.ensures c.in_ok-left-in-Binary.ensures.operand in
    let p_is : p ≡ operand_in (gives text s (ex_of b)) = subst (λ (x : Expr). p ≡ operand_in (gives text s (ex_of x))) c.deref-in-Binary-2.ensures c.in_ok-right-in-Binary.ensures.operand in
    let at : left.pos ≡ first_pos (ex_of a) = subst (λ (x : Expr). left.pos ≡ first_pos (ex_of x)) c.deref-in-Binary.ensures c.in_ok-left-in-Binary.ensures.pos in
    let further : right.pos ≡ first_pos (ex_of b) = subst (λ (x : Expr). right.pos ≡ first_pos (ex_of x)) c.deref-in-Binary-2.ensures c.in_ok-right-in-Binary.ensures.pos in
    let whole : (x : Checked) → x.fault ≡ lesser (lesser left.fault right.fault) (pair_fault left.pos right.pos op o p) → IsLeast (Fails text s (binary c.in-Binary.pos op (ex_of a) (ex_of b))) x.fault =
    λ x is. rw (is, at, further) (binary_least text s c.in-Binary.pos op (ex_of a) (ex_of b) left.fault right.fault o p l r o_is p_is) in
    rw (c.in-Binary.is) (if_ok _ _ c.pair.result whole c.pair.ensures.fault)

pub check_expr-returns-in_ok-inner-in-Paren-clause-fault : goal.check_expr-returns-in_ok-inner-in-Paren-clause-fault
check_expr-returns-in_ok-inner-in-Paren-clause-fault t c =
    let text = c.args.text.now in
    let s = scope_of c.args.scope.now in
    let inner = c.in_ok-inner-in-Paren.inner in
    rw (c.in-Paren.is, c.in_parentheses.ensures.fault) (subst (λ (x : Expr). IsLeast (Fails text s (ex_of x)) inner.fault) c.deref-in-Paren.ensures c.in_ok-inner-in-Paren.ensures.fault)

pub check_expr-returns-in_ok-listed-in-Call-clause-fault : goal.check_expr-returns-in_ok-listed-in-Call-clause-fault
check_expr-returns-in_ok-listed-in-Call-clause-fault t c =
    let text = c.args.text.now in
    let s = scope_of c.args.scope.now in
    let g : Expr = c.in-Call.function.value in
    let es : List Expr = c.in-Call.arguments.items in
    let spread = c.in-Call.spread in
    let called = c.in_ok-called-in-Call.called in
    let listed = c.in_ok-listed-in-Call.listed in
    let os = seens listed.items.items in
    let k = callee_of called.callee in
    let shape : ex_of c.args.e.now ≡ call (ex_of g) (exs_of es) spread = grind (arith, expr_rows) in
    let k_is : k ≡ spread_over spread (callee text s (name_in (ex_of g)) (gives text s (ex_of g))) =
    subst (λ (x : Expr). k ≡ spread_over spread (callee text s (name_in (ex_of x)) (gives text s (ex_of x)))) c.deref-in-Call.ensures c.in_ok-called-in-Call.ensures.callee in
    let os_is : os ≡ seen text s (exs_of es) = subst (λ (l : List Expr). os ≡ seen text s (exs_of l)) c.deref-in-Call-2.ensures.value c.in_ok-listed-in-Call.ensures.seen in
    let a : IsLeast (CalleeFails text s (name_in (ex_of g)) (λ f. Fails text s (ex_of g) f) (gives text s (ex_of g))) called.fault =
    subst (λ (x : Expr). IsLeast (CalleeFails text s (name_in (ex_of x)) (λ f. Fails text s (ex_of x) f) (gives text s (ex_of x))) called.fault) c.deref-in-Call.ensures c.in_ok-called-in-Call.ensures.fault in
    let b : IsLeast (FailsInEach text s (exs_of es)) listed.fault = subst (λ (l : List Expr). IsLeast (FailsInEach text s (exs_of l)) listed.fault) c.deref-in-Call-2.ensures.value c.in_ok-listed-in-Call.ensures.fault in
    let at : c.pos.result ≡ first_pos (ex_of g) = subst (λ (x : Expr). c.pos.result ≡ first_pos (ex_of x)) c.deref-in-Call-5.ensures c.pos.ensures in
    let inner = c.quiet_fault-inner.result in
    let inner_is : inner ≡ quiet_fault text s k (exs_of es) os =
    subst (λ (l : List Item). inner ≡ quiet_fault text s k (exs_of es) (seens l)) c.deref-in-Call-4.ensures.value
    (subst (λ (l : List Expr). inner ≡ quiet_fault text s k (exs_of l) (seens c.deref-in-Call-4.result.now)) c.deref-in-Call-3.ensures.value c.quiet_fault-inner.ensures) in
    let own : IfOk c.call_of.result (λ r. IsLesserWith (λ f. CallFails (first_pos (ex_of g)) k os f ⊎ IsFault inner f) (lesser called.fault listed.fault) r.fault) =
    subst (λ (p : Pos). IfOk c.call_of.result (λ r. IsLesserWith (λ f. CallFails p k os f ⊎ IsFault inner f) (lesser called.fault listed.fault) r.fault)) at c.call_of.ensures.fault in
    rw (shape) (if_ok _ _ c.call_of.result (λ r h. call_least text s (ex_of g) (exs_of es) spread k os called.fault listed.fault inner r.fault k_is os_is inner_is a b h) own)

pub check_expr-returns-in-Slice-clause-fault : goal.check_expr-returns-in-Slice-clause-fault
check_expr-returns-in-Slice-clause-fault t c =
    let text = c.args.text.now in
    let s = scope_of c.args.scope.now in
    rw (c.in-Slice.is) (subst (λ (x : Expr). IfOk c.check_left_out.result (λ r. IsLeast (λ f. Fails text s (ex_of x) f ⊎ FormFails (first_pos (ex_of x)) f) r.fault)) c.deref-in-Slice.ensures c.check_left_out.ensures.fault)

pub check_left_out-returns-clause-fault : goal.check_left_out-returns-clause-fault
check_left_out-returns-clause-fault t c =
    let P = Fails c.args.text.now (scope_of c.args.scope.now) (ex_of c.args.first.now) in
    let checked = c.in_ok-checked.checked in
    rw (c.lesser.ensures) (subst (λ (at : Pos). IsLeast (λ f. P f ⊎ FormFails at f) (lesser checked.fault c.form_fault.result)) c.in_ok-checked.ensures.pos
    (least_join P (FormFails checked.pos) checked.fault c.form_fault.result c.in_ok-checked.ensures.fault c.form_fault.ensures))

pub check_prefix-returns-clause-fault : goal.check_prefix-returns-clause-fault
check_prefix-returns-clause-fault t c =
    let inner = c.in_ok-inner.inner in
    let taken : has_rules c.args.op ≡ true = sym c.has_rules.ensures ∙ c.if-not-has_rules.false in
    rw (c.lesser.ensures, c.prefix_fault-own.ensures)
    (unary_least c.args.text.now (scope_of c.args.scope.now) c.args.pos c.args.op (ex_of c.args.inner.now) inner.fault (option_map operand_of inner.operand) taken c.in_ok-inner.ensures.fault c.in_ok-inner.ensures.operand)

pub check_list-loop-e-init : goal.check_list-loop-e-init
check_list-loop-e-init t c = (rw (c.new-items.ensures.items) refl, kept_start _)

pub check_list-loop-e-preserved : goal.check_list-loop-e-preserved
check_list-loop-e-preserved t c =
    let text = c.args.text.now in
    let s = scope_of c.args.scope.now in
    let all = exs_of c.args.es.now in
    let e : Expr = c.e-item.result in
    let k = c.loop-e.e-index in
    let others = exs_of (drop (k + 1) c.args.es.now) in
    let here : drop k c.args.es.now ≡ e ∷ drop (k + 1) c.args.es.now = from_one c.args.es.now k e c.loop-e-test.true c.e-item.is in
    let found = c.in_ok-pos.ensures in
    let item : Item = record { pos = c.in_ok-pos.pos; gives = c.in_ok-pos.gives } in
    let same : seen_of item ≡ record { at = first_pos (ex_of e); gives = gives text s (ex_of e) } = search rules in
    let front : seen text s all ≡ seens c.loop-e.items.items ++ seen text s (exs_of (e ∷ drop (k + 1) c.args.es.now)) =
    c.loop-e.invariant.0 ∙ ap (λ (l : List Expr). seens c.loop-e.items.items ++ seen text s (exs_of l)) here in
    let kept = subst (λ (l : List Expr). Kept (FailsInEach text s all) (FailsInEach text s (exs_of l)) c.loop-e.fault) here c.loop-e.invariant.1 in
    let items : c.push.new.self.items ≡ c.loop-e.items.items ++ item ∷ [] = search rules in
    let least : IsLeast (Fails text s (ex_of e)) c.in_ok-pos.field-0.fault = search rules in (
      rw (items) (pushed c.loop-e.items.items item (gives text s (ex_of e)) (first_pos (ex_of e)) (seen text s all) (seen text s others) same front),
      rw (c.lesser-fault.ensures) (kept_more (FailsInEach text s all) (Fails text s (ex_of e)) (FailsInEach text s others) c.loop-e.fault c.in_ok-pos.field-0.fault kept least),
    )

pub check_list-returns-clause-seen : goal.check_list-returns-clause-seen
check_list-returns-clause-seen t c =
    let text = c.args.text.now in
    let s = scope_of c.args.scope.now in
    let k = c.loop-e.e-index in
    let none : drop k c.args.es.now ≡ [] = nothing_left c.args.es.now k (λ l. absurd (omega (arith, l, c.loop-e-test.false))) in
    sym (c.loop-e.invariant.0 ∙ ap (λ (l : List Expr). seens c.loop-e.items.items ++ seen text s (exs_of l)) none ∙ append-nil (seens c.loop-e.items.items))

pub check_list-returns-clause-fault : goal.check_list-returns-clause-fault
check_list-returns-clause-fault t c =
    let text = c.args.text.now in
    let s = scope_of c.args.scope.now in
    let k = c.loop-e.e-index in
    let none : drop k c.args.es.now ≡ [] = nothing_left c.args.es.now k (λ l. absurd (omega (arith, l, c.loop-e-test.false))) in
    kept_end (FailsInEach text s (exs_of c.args.es.now)) (FailsInEach text s (exs_of (drop k c.args.es.now))) c.loop-e.fault (λ g h. subst (λ (l : List Expr). FailsInEach text s (exs_of l) g) none h) c.loop-e.invariant.1

pub check_single-returns-clause-fault : goal.check_single-returns-clause-fault
check_single-returns-clause-fault t c =
    let text = c.args.text.now in
    let s = scope_of c.args.scope.now in
    let e = ex_of c.args.e.now in
    let checked = c.in_ok-checked.checked in
    let given : option_map gives_of checked.gives ≡ gives text s e = c.in_ok-checked.ensures.gives in
    rw (c.as_single.ensures.fault, given) (least_join (Fails text s e) (IsFault (single_fault (gives text s e))) checked.fault (single_fault (gives text s e)) c.in_ok-checked.ensures.fault (leaf (single_fault (gives text s e))))

pub check_selector-returns-clause-fault : goal.check_selector-returns-clause-fault
check_selector-returns-clause-fault t c =
    let value = c.in_ok-value.value in
    let own = c.selector_fault-own.ensures in
    rw (c.lesser.ensures, own, c.in_ok-value.ensures.pos)
    (selector_least c.args.text.now (scope_of c.args.scope.now) c.args.dot c.args.name (ex_of c.args.value.now) value.fault (option_map operand_of value.operand) c.in_ok-value.ensures.fault c.in_ok-value.ensures.operand)

pub check_expr-returns-in_ok-index-in-Index-clause-fault : goal.check_expr-returns-in_ok-index-in-Index-clause-fault
check_expr-returns-in_ok-index-in-Index-clause-fault t c =
    let text = c.args.text.now in
    let s = scope_of c.args.scope.now in
    let a : Expr = c.in-Index.whole.value in
    let b : Expr = c.in-Index.index.value in
    let whole = c.in_ok-whole-in-Index.whole in
    let index1 = c.in_ok-index-in-Index.index in
    let o = option_map operand_of whole.operand in
    let p = option_map operand_of index1.operand in
    let l : IsLeast (FailsAsOperand text s (ex_of a)) whole.fault = subst (λ (x : Expr). IsLeast (FailsAsOperand text s (ex_of x)) whole.fault) c.deref-in-Index.ensures c.in_ok-whole-in-Index.ensures.fault in
    let r : IsLeast (FailsAsOperand text s (ex_of b)) index1.fault = subst (λ (x : Expr). IsLeast (FailsAsOperand text s (ex_of x)) index1.fault) c.deref-in-Index-2.ensures c.in_ok-index-in-Index.ensures.fault in
    let o_is : o ≡ operand_in (gives text s (ex_of a)) = subst (λ (x : Expr). o ≡ operand_in (gives text s (ex_of x))) c.deref-in-Index.ensures c.in_ok-whole-in-Index.ensures.operand in
    let p_is : p ≡ operand_in (gives text s (ex_of b)) = subst (λ (x : Expr). p ≡ operand_in (gives text s (ex_of x))) c.deref-in-Index-2.ensures c.in_ok-index-in-Index.ensures.operand in
    let at : whole.pos ≡ first_pos (ex_of a) = subst (λ (x : Expr). whole.pos ≡ first_pos (ex_of x)) c.deref-in-Index.ensures c.in_ok-whole-in-Index.ensures.pos in
    let all : (x : Checked) → x.fault ≡ lesser (lesser whole.fault index1.fault) (index_fault s.types whole.pos o p) → IsLeast (Fails text s (index (ex_of a) c.in-Index.bracket (ex_of b))) x.fault =
    λ x is. rw (is, at) (index_least text s c.in-Index.bracket (ex_of a) (ex_of b) whole.fault index1.fault o p l r o_is p_is) in
    rw (c.in-Index.is) (if_ok _ _ c.element.result all c.element.ensures.fault)

pub check_expr-returns-in_ok-literal-in-Literal-clause-fault : goal.check_expr-returns-in_ok-literal-in-Literal-clause-fault
check_expr-returns-in_ok-literal-in-Literal-clause-fault t c =
    let text = c.args.text.now in
    let s = scope_of c.args.scope.now in
    let g : Expr = c.in-Literal.type_expr.value in
    let es : List Element = c.in-Literal.list.items in
    let stated = c.in_ok-stated-in-Literal.stated in
    let inner = c.in_ok-literal-in-Literal.literal in
    let shape : ex_of c.args.e.now ≡ literal (ex_of g) (elements_of es) = grind (arith, expr_rows) in
    let a : IsLeast (StatedFails text s (ex_of g)) stated.fault = subst (λ (x : Expr). IsLeast (StatedFails text s (ex_of x)) stated.fault) c.deref-in-Literal.ensures c.in_ok-stated-in-Literal.ensures.fault in
    let u : stated.value_type ≡ stated_type text s (ex_of g) = subst (λ (x : Expr). stated.value_type ≡ stated_type text s (ex_of x)) c.deref-in-Literal.ensures c.in_ok-stated-in-Literal.ensures.value_type in
    let at : c.pos-pos.result ≡ first_pos (ex_of g) = subst (λ (x : Expr). c.pos-pos.result ≡ first_pos (ex_of x)) c.deref-in-Literal-2.ensures c.pos-pos.ensures in
    let b0 : IsLeast (FailsInLiteral text s c.pos-pos.result stated.value_type (elements_of es)) inner.fault =
    subst (λ (l : List Element). IsLeast (FailsInLiteral text s c.pos-pos.result stated.value_type (elements_of l)) inner.fault) c.deref-in-Literal-3.ensures.value c.in_ok-literal-in-Literal.ensures.fault in
    let b1 = subst (λ (q : Pos). IsLeast (FailsInLiteral text s q stated.value_type (elements_of es)) inner.fault) at b0 in
    let b = subst (λ (v : Option ValueType). IsLeast (FailsInLiteral text s (first_pos (ex_of g)) v (elements_of es)) inner.fault) u b1 in
    rw (shape, c.typed_literal.ensures.fault) (literal_least text s (ex_of g) (elements_of es) stated.fault inner.fault a b)

pub check_early-returns-clause-fault : goal.check_early-returns-clause-fault
check_early-returns-clause-fault t c =
    let single = c.in_ok-single.single in
    rw (c.early.ensures.fault, c.call_in.ensures)
    (length_least c.args.text.now (scope_of c.args.scope.now) (ex_of c.args.e.now) single.fault (option_map operand_of single.operand) c.in_ok-single.ensures.fault c.in_ok-single.ensures.operand)

pub check_stated-returns-in-Paren-clause-fault : goal.check_stated-returns-in-Paren-clause-fault
check_stated-returns-in-Paren-clause-fault t c =
    let text = c.args.text.now in
    let s = scope_of c.args.scope.now in
    rw (c.in-Paren.is) (subst (λ (x : Expr). IfOk c.check_stated.result (λ r. IsLeast (StatedFails text s (ex_of x)) r.fault)) c.deref.ensures c.check_stated.ensures.fault)

pub check_stated-returns-in_ok-element-in-ArrayType-clause-value_type : goal.check_stated-returns-in_ok-element-in-ArrayType-clause-value_type
check_stated-returns-in_ok-element-in-ArrayType-clause-value_type t c =
    let text = c.args.text.now in
    let s = scope_of c.args.scope.now in
    let a : Expr = c.in-ArrayType.length.value in
    let b : Expr = c.in-ArrayType.element.value in
    let of = c.in_ok-element-in-ArrayType.element in
    let o = option_map operand_of c.in_ok-length-in-ArrayType.length.operand in
    let o_is : o ≡ early_gives text s (ex_of a) = subst (λ (x : Expr). o ≡ early_gives text s (ex_of x)) c.deref-in-ArrayType.ensures c.in_ok-length-in-ArrayType.ensures.operand in
    let u_is : of.value_type ≡ stated_type text s (ex_of b) = subst (λ (x : Expr). of.value_type ≡ stated_type text s (ex_of x)) c.deref-in-ArrayType-2.ensures c.in_ok-element-in-ArrayType.ensures.value_type in
    rw (c.in-ArrayType.is)
    (c.array_of.ensures.value_type ∙ ap (λ (x : Option Operand). array_with s.types (option_and_then length_of x) of.value_type) o_is
    ∙ ap (λ (u : Option ValueType). array_with s.types (option_and_then length_of (early_gives text s (ex_of a))) u) u_is)

pub check_stated-returns-in_ok-element-in-ArrayType-clause-fault : goal.check_stated-returns-in_ok-element-in-ArrayType-clause-fault
check_stated-returns-in_ok-element-in-ArrayType-clause-fault t c =
    let text = c.args.text.now in
    let s = scope_of c.args.scope.now in
    let a : Expr = c.in-ArrayType.length.value in
    let b : Expr = c.in-ArrayType.element.value in
    let long = c.in_ok-length-in-ArrayType.length in
    let of = c.in_ok-element-in-ArrayType.element in
    let o = option_map operand_of long.operand in
    let l : IsLeast (FailsEarly text s (ex_of a)) long.fault = subst (λ (x : Expr). IsLeast (FailsEarly text s (ex_of x)) long.fault) c.deref-in-ArrayType.ensures c.in_ok-length-in-ArrayType.ensures.fault in
    let r : IsLeast (StatedFails text s (ex_of b)) of.fault = subst (λ (x : Expr). IsLeast (StatedFails text s (ex_of x)) of.fault) c.deref-in-ArrayType-2.ensures c.in_ok-element-in-ArrayType.ensures.fault in
    let o_is : o ≡ early_gives text s (ex_of a) = subst (λ (x : Expr). o ≡ early_gives text s (ex_of x)) c.deref-in-ArrayType.ensures c.in_ok-length-in-ArrayType.ensures.operand in
    let u_is : of.value_type ≡ stated_type text s (ex_of b) = subst (λ (x : Expr). of.value_type ≡ stated_type text s (ex_of x)) c.deref-in-ArrayType-2.ensures c.in_ok-element-in-ArrayType.ensures.value_type in
    let at : long.pos ≡ first_pos (ex_of a) = subst (λ (x : Expr). long.pos ≡ first_pos (ex_of x)) c.deref-in-ArrayType.ensures c.in_ok-length-in-ArrayType.ensures.pos in
    rw (c.in-ArrayType.is, c.array_of.ensures.fault, at) (array_least text s c.in-ArrayType.bracket (ex_of a) (ex_of b) long.fault of.fault o of.value_type l r o_is u_is)

pub check_elements-returns-clause-fault : goal.check_elements-returns-clause-fault
check_elements-returns-clause-fault t c =
    let text = c.args.text.now in
    let s = scope_of c.args.scope.now in
    let es = elements_of c.args.list.now in
    let listed = c.in_ok-listed.listed in
    let same : placeds listed.placed.items ≡ placed text s c.args.whole 0 es = c.in_ok-listed.ensures.placed in
    let own : IfOk c.literal_of.result (λ r. IsLiteralFault (ShapeFails text s c.args.first c.args.whole es) (ElementsFail (placed text s c.args.whole 0 es)) listed.fault r.fault) =
    subst (λ (qs : List Placed). IfOk c.literal_of.result (λ r. IsLiteralFault (ShapeFails text s c.args.first c.args.whole es) (ElementsFail qs) listed.fault r.fault)) same c.literal_of.ensures.fault in
    if_ok _ _ c.literal_of.result (λ r h. elements_least text s c.args.first c.args.whole es listed.fault r.fault c.in_ok-listed.ensures.fault h) own

pub check_element-returns-in-Plain-clause-fault : goal.check_element-returns-in-Plain-clause-fault
check_element-returns-in-Plain-clause-fault t c = rw (c.in-Plain.is) c.check_part.ensures.fault

pub check_element-returns-in-Keyed-clause-fault : goal.check_element-returns-in-Keyed-clause-fault
check_element-returns-in-Keyed-clause-fault t c = rw (c.in-Keyed.is) c.check_part-in-Keyed.ensures.fault

pub check_placed-loop-element-init : goal.check_placed-loop-element-init
check_placed-loop-element-init t c = (rw (c.new-placed.ensures.items) refl, kept_start _)

pub check_placed-loop-element-preserved : goal.check_placed-loop-element-preserved
check_placed-loop-element-preserved t c =
    let text = c.args.text.now in
    let s = scope_of c.args.scope.now in
    let whole = c.args.whole in
    let xs = c.args.list.now in
    let x : Element = c.element-item.result in
    let k = c.loop-element.element-index in
    let n = c.loop-element.number in
    let rest = elements_of (drop (k + 1) xs) in
    let here : drop k xs ≡ x ∷ drop (k + 1) xs = from_one xs k x c.loop-element-test.true c.element-item.is in
    let found = c.in_ok-pos.ensures in
    let q : PlacedData = record { part = c.element_part-part.result; pos = c.in_ok-pos.pos; operand = c.in_ok-pos.operand } in
    let r : Placed = record { part = element_part text s whole n (key_in x); at = first_pos (element_value x); operand = operand_in (element_gives text s whole (element_value x)) } in
    let same : placed_of q ≡ r = search rules in
    let front : placed text s whole 0 (elements_of xs) ≡ placeds c.loop-element.placed.items ++ (r ∷ placed text s whole (1 + n) rest) =
    c.loop-element.invariant.0
    ∙ ap (λ (l : List Element). placeds c.loop-element.placed.items ++ placed text s whole n (elements_of l)) here
    ∙ ap (λ l. placeds c.loop-element.placed.items ++ placed text s whole n l) (elements_next text s x (drop (k + 1) xs))
    ∙ ap (λ l. placeds c.loop-element.placed.items ++ l) (placed_next text s whole n (key_in x) (element_value x) rest) in
    let kept0 = subst (λ (l : List Element). Kept (FailsInElements text s whole (elements_of xs)) (FailsInElements text s whole (elements_of l)) c.loop-element.fault) here c.loop-element.invariant.1 in
    let kept1 = subst (λ (l : TreeElements). Kept (FailsInElements text s whole (elements_of xs)) (FailsInElements text s whole l) c.loop-element.fault) (elements_next text s x (drop (k + 1) xs)) kept0 in
    let kept = subst (λ (P : Fault → Type 0). Kept (FailsInElements text s whole (elements_of xs)) P c.loop-element.fault) (fails_next text s whole (key_in x) (element_value x) rest) kept1 in
    let items : c.push.new.self.items ≡ c.loop-element.placed.items ++ q ∷ [] = search rules in
    let least : IsLeast (FailsInElement text s whole (element_value x)) c.in_ok-pos.field-0.fault = search rules in (
      rw (items, c.in_ok-number.ensures) (placed_pushed c.loop-element.placed.items q r (placed text s whole 0 (elements_of xs)) (placed text s whole (1 + n) rest) same front),
      rw (c.lesser-fault.ensures) (kept_more (FailsInElements text s whole (elements_of xs)) (FailsInElement text s whole (element_value x)) (FailsInElements text s whole rest) c.loop-element.fault c.in_ok-pos.field-0.fault kept least),
    )

pub check_placed-returns-clause-placed : goal.check_placed-returns-clause-placed
check_placed-returns-clause-placed t c =
    let text = c.args.text.now in
    let s = scope_of c.args.scope.now in
    let k = c.loop-element.element-index in
    let n = c.loop-element.number in
    let none : drop k c.args.list.now ≡ [] = nothing_left c.args.list.now k (λ l. absurd (omega (arith, l, c.loop-element-test.false))) in
    sym (c.loop-element.invariant.0 ∙ ap (λ (l : List Element). placeds c.loop-element.placed.items ++ placed text s c.args.whole n (elements_of l)) none ∙ append-nil (placeds c.loop-element.placed.items))

pub check_placed-returns-clause-fault : goal.check_placed-returns-clause-fault
check_placed-returns-clause-fault t c =
    let text = c.args.text.now in
    let s = scope_of c.args.scope.now in
    let k = c.loop-element.element-index in
    let none : drop k c.args.list.now ≡ [] = nothing_left c.args.list.now k (λ l. absurd (omega (arith, l, c.loop-element-test.false))) in
    kept_end (FailsInElements text s c.args.whole (elements_of c.args.list.now)) (FailsInElements text s c.args.whole (elements_of (drop k c.args.list.now))) c.loop-element.fault
    (λ g h. subst (λ (l : List Element). FailsInElements text s c.args.whole (elements_of l) g) none h) c.loop-element.invariant.1

pub check_part-returns-then-not-is_bare-clause-fault : goal.check_part-returns-then-not-is_bare-clause-fault
check_part-returns-then-not-is_bare-clause-fault t c =
    let text = c.args.text.now in
    let s = scope_of c.args.scope.now in
    let bare : is_bare (ex_of c.args.e.now) ≡ false = sym c.is_bare.ensures ∙ c.if-not-is_bare.true in
    if_ok _ _ c.check_single.result (λ r h. typed_least text s c.args.whole (ex_of c.args.e.now) r.fault bare h) c.check_single.ensures.fault

pub check_part-returns-clause-fault : goal.check_part-returns-clause-fault
check_part-returns-clause-fault t c =
    let text = c.args.text.now in
    let s = scope_of c.args.scope.now in
    let es : List Element = c.in-Elements.list.items in
    let inner = c.in_ok-literal.literal in
    let shape : ex_of c.args.e.now ≡ elements c.in-Elements.pos (elements_of es) = grind (arith, expr_rows) in
    let el : elision_of c.elided-elision.result ≡ elided s.types c.args.whole = c.elided-elision.ensures in
    let own : c.type_elided-own.result ≡ type_elided (elided s.types c.args.whole) = c.type_elided-own.ensures ∙ ap type_elided el in
    let d0 : IsLeast (FailsInLiteral text s c.in-Elements.pos c.type_elided-own.result (elements_of es)) inner.fault =
    subst (λ (l : List Element). IsLeast (FailsInLiteral text s c.in-Elements.pos c.type_elided-own.result (elements_of l)) inner.fault) c.deref.ensures.value c.in_ok-literal.ensures.fault in
    let d = subst (λ (v : Option ValueType). IsLeast (FailsInLiteral text s c.in-Elements.pos v (elements_of es)) inner.fault) own d0 in
    rw (shape, c.elided_literal.ensures.fault, el) (elided_least text s c.in-Elements.pos c.args.whole (elements_of es) inner.fault d)
