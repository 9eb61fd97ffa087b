use Rattle.std.proofs.Common.{◌≡◌, [], ◌∷◌, ◌+◌, List, drop, sym, ap, ◌∙◌, refl, subst, arith}
use Rattle.std.specs.Prelude.{◌&&◌, is_some}
use Rattle.syntax.specs.declared.expression.Expr.{Expr}
use Rattle.syntax.specs.Expressions.{ex_of, exs_of}
use Rattle.type_faults.proofs.Leasts.{Kept, kept_start, kept_more, kept_end}
use Rattle.names.specs.Scope.{scope_of}
use Rattle.names.specs.Naming.{name_in}
use Rattle.type_faults.proofs.Lists.{from_one, nothing_left, and_true, and_all}
use Rattle.simple_statements.proofs.updating.check_sides.Goals as goal
use Rattle.simple_statements.specs.SimpleStatements.{own_value}
use Rattle.simple_statements.specs.SimpleFaults.{have_values, OwnSideFails, OwnSidesFail}

pub loop-e-init : goal.loop-e-init
loop-e-init c = (refl, kept_start _)

pub loop-e-preserved : goal.loop-e-preserved
loop-e-preserved c =
    let text = c.args.text.now in
    let s = scope_of c.args.scope.now in
    let xs = c.args.es.now in
    let k = c.loop-e.e-index in
    let x : Expr = c.e-item.result in
    let e = ex_of x in
    let rest = drop (k + 1) xs in
    let here : drop k xs ≡ x ∷ rest = from_one xs k x c.loop-e-test.true c.e-item.is in
    let front : have_values text s (exs_of xs) ≡ (c.loop-e.known && (is_some (own_value text s e) && have_values text s (exs_of rest))) =
    c.loop-e.invariant.0 ∙ ap (λ (l : List Expr). c.loop-e.known && have_values text s (exs_of l)) here in
    let kept = subst (λ (l : List Expr). Kept (OwnSidesFail text s (exs_of xs)) (OwnSidesFail text s (exs_of l)) c.loop-e.fault) here c.loop-e.invariant.1 in (
      rw (c.with_known-known.ensures, c.in_ok-own.ensures.value) (front ∙ and_all c.loop-e.known (is_some (own_value text s e)) (have_values text s (exs_of rest))),
      rw (c.lesser-fault.ensures) (kept_more (OwnSidesFail text s (exs_of xs)) (OwnSideFails text s (name_in e) e) (OwnSidesFail text s (exs_of rest)) c.loop-e.fault c.in_ok-own.own.fault kept c.in_ok-own.ensures.fault),
    )

pub returns-clause-known : goal.returns-clause-known
returns-clause-known c =
    let text = c.args.text.now in
    let s = scope_of c.args.scope.now in
    let xs = c.args.es.now in
    let k = c.loop-e.e-index in
    let none : drop k xs ≡ [] = nothing_left xs k (λ l. absurd (omega (arith, l, c.loop-e-test.false))) in
    sym (c.loop-e.invariant.0 ∙ ap (λ (l : List Expr). c.loop-e.known && have_values text s (exs_of l)) none ∙ and_true c.loop-e.known)

pub returns-clause-fault : goal.returns-clause-fault
returns-clause-fault c =
    let text = c.args.text.now in
    let s = scope_of c.args.scope.now in
    let xs = c.args.es.now in
    let k = c.loop-e.e-index in
    let none : drop k xs ≡ [] = nothing_left xs k (λ l. absurd (omega (arith, l, c.loop-e-test.false))) in
    kept_end (OwnSidesFail text s (exs_of xs)) (OwnSidesFail text s (exs_of (drop k xs))) c.loop-e.fault (λ g h. subst (λ (l : List Expr). OwnSidesFail text s (exs_of l) g) none h) c.loop-e.invariant.1
