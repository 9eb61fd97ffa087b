use Rattle.std.proofs.Common.{◌≡◌, [], ◌∷◌, ◌+◌, List, drop, subst, arith}
use Rattle.syntax.specs.declared.expression.Expr.{Expr}
use Rattle.syntax.specs.Expressions.{ex_of, exs_of}
use Rattle.type_faults.proofs.Leasts.{Kept, kept_start, kept_more, kept_end}
use Rattle.names.specs.Scope.{scope_of}
use Rattle.expression_types.specs.Faults.{StatedFails}
use Rattle.type_faults.proofs.Lists.{from_one, nothing_left}
use Rattle.function_heads.proofs.head_types.unnamed_fault.Goals as goal
use Rattle.signatures.specs.Signatures.{unnamed_params}
use Rattle.function_heads.specs.HeadFaults.{TypesFail}

pub loop-type_expr-init : goal.loop-type_expr-init
loop-type_expr-init c = kept_start _

pub loop-type_expr-preserved : goal.loop-type_expr-preserved
loop-type_expr-preserved c =
    let text = c.args.text.now in
    let s = scope_of c.args.scope.now in
    let xs = c.args.types.now in
    let k = c.loop-type_expr.type_expr-index in
    let e : Expr = c.type_expr-item.result in
    let all = TypesFail text s (unnamed_params (exs_of xs)) in
    let here : drop k xs ≡ e ∷ drop (k + 1) xs = from_one xs k e c.loop-type_expr-test.true c.type_expr-item.is in
    let kept = subst (λ (l : List Expr). Kept all (TypesFail text s (unnamed_params (exs_of l))) c.loop-type_expr.fault) here c.loop-type_expr.invariant in
    rw (c.lesser-fault.ensures)
    (kept_more all (StatedFails text s (ex_of e)) (TypesFail text s (unnamed_params (exs_of (drop (k + 1) xs)))) c.loop-type_expr.fault c.in_ok-own.own kept c.in_ok-own.ensures)

pub returns : goal.returns
returns c =
    let text = c.args.text.now in
    let s = scope_of c.args.scope.now in
    let xs = c.args.types.now in
    let k = c.loop-type_expr.type_expr-index in
    let none : drop k xs ≡ [] = nothing_left xs k (λ l. absurd (omega (arith, l, c.loop-type_expr-test.false))) in
    kept_end (TypesFail text s (unnamed_params (exs_of xs))) (TypesFail text s (unnamed_params (exs_of (drop k xs)))) c.loop-type_expr.fault
    (λ g h. subst (λ (l : List Expr). TypesFail text s (unnamed_params (exs_of l)) g) none h) c.loop-type_expr.invariant
