use Rattle.std.proofs.Common.{◌≡◌, [], ◌∷◌, ◌+◌, ◌++◌, List, None, drop, map, sym, ap, ◌∙◌, append_assoc, append-nil, arith}
use Rattle.syntax.specs.declared.expression.Expr.{Expr}
use Rattle.syntax.specs.Expressions.{ex_of, exs_of}
use Rattle.expression_types.specs.Typing.{stated_type}
use Rattle.names.specs.Scope.{scope_of}
use Rattle.type_faults.proofs.Lists.{from_one, nothing_left}
use Rattle.function_heads.proofs.head_types.unnamed_slots.Goals as goal
use Rattle.signatures.specs.declared.slots.Slot.{Slot}
use Rattle.signatures.specs.Signatures.{unnamed_params}
use Rattle.function_heads.specs.HeadTypes.{slot_of}

pub loop-type_expr-preserved : goal.loop-type_expr-preserved
loop-type_expr-preserved c =
    let text = c.args.text.now in
    let heads = scope_of c.args.heads.now in
    let xs = c.args.types.now in
    let k = c.loop-type_expr.type_expr-index in
    let e : Expr = c.type_expr-item.result in
    let slot : Slot = record { name = None; value_type = stated_type text heads (ex_of e) } in
    let rest = map (slot_of text heads) (unnamed_params (exs_of (drop (k + 1) xs))) in
    let here : drop k xs ≡ e ∷ drop (k + 1) xs = from_one xs k e c.loop-type_expr-test.true c.type_expr-item.is in
    let front = c.loop-type_expr.invariant ∙ ap (λ (l : List Expr). c.loop-type_expr.slots.items ++ map (slot_of text heads) (unnamed_params (exs_of l))) here in
    rw (c.in_ok-push.ensures.items, c.in_ok-value_type.ensures) (front ∙ sym (append_assoc c.loop-type_expr.slots.items (slot ∷ []) rest))

pub returns : goal.returns
returns c =
    let text = c.args.text.now in
    let heads = scope_of c.args.heads.now in
    let xs = c.args.types.now in
    let k = c.loop-type_expr.type_expr-index in
    let none : drop k xs ≡ [] = nothing_left xs k (λ l. absurd (omega (arith, l, c.loop-type_expr-test.false))) in
    sym (c.loop-type_expr.invariant ∙ ap (λ (l : List Expr). c.loop-type_expr.slots.items ++ map (slot_of text heads) (unnamed_params (exs_of l))) none ∙ append-nil c.loop-type_expr.slots.items)
