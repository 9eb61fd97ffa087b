use Rattle.std.proofs.Common.{◌≡◌, [], ◌∷◌, ◌+◌, ◌++◌, List, drop, map, refl, sym, ap, ◌∙◌, subst, append_assoc, append-nil, arith}
use Rattle.std.specs.Option.{option_map}
use Rattle.syntax.specs.declared.expression.Expr.{Expr}
use Rattle.syntax.specs.Expressions.{ex_of, exs_of}
use Rattle.typed.specs.View.{left_of as left_view}
use Rattle.type_faults.proofs.Leasts.{Kept, kept_start, kept_more, kept_end}
use Rattle.names.specs.Scope.{scope_of}
use Rattle.names.specs.Naming.{name_in}
use Rattle.type_faults.proofs.Lists.{from_one, nothing_left, joined, joined_start, joined_more, joined_none}
use Rattle.simple_statements.proofs.sides.check_lefts.Goals as goal
use Rattle.simple_statements.specs.SimpleStatements.{left, wanted, lefts, all_wanted}
use Rattle.simple_statements.specs.SimpleFaults.{LeftSideFails, LeftsFail}

pub loop-e-init : goal.loop-e-init
loop-e-init c =
    let text = c.args.text.now in
    let s = scope_of c.args.scope.now in
    let es = exs_of c.args.es.now in
    (rw (c.new.ensures.items) (sym (joined_start (lefts text s es))), rw (c.new-wanted.ensures.items) refl, kept_start _)

pub loop-e-preserved : goal.loop-e-preserved
loop-e-preserved c =
    let text = c.args.text.now in
    let s = scope_of c.args.scope.now in
    let xs = c.args.es.now in
    let k = c.loop-e.e-index in
    let x : Expr = c.e-item.result in
    let e = ex_of x in
    let rest = drop (k + 1) xs in
    let so_far = option_map (λ v. map left_view v.items) c.loop-e.lefts in
    let here : drop k xs ≡ x ∷ rest = from_one xs k x c.loop-e-test.true c.e-item.is in
    let front = c.loop-e.invariant.0 ∙ ap (λ (l : List Expr). joined so_far (lefts text s (exs_of l))) here in
    let kept = subst (λ (l : List Expr). Kept (LeftsFail text s (exs_of xs)) (LeftsFail text s (exs_of l)) c.loop-e.fault) here c.loop-e.invariant.2 in
    let types = c.loop-e.wanted.items in
    let side = c.in_ok-side.ensures in (
      rw (c.in_ok-lefts.ensures, c.left_of.ensures, side.blank, side.place) (front ∙ joined_more so_far (left text s e) (lefts text s (exs_of rest))),
      rw (c.in_ok-push.ensures.items, c.wanted_of.ensures, side.blank, side.place)
          (c.loop-e.invariant.1 ∙ ap (λ (l : List Expr). types ++ all_wanted text s (exs_of l)) here ∙ sym (append_assoc types (wanted text s e ∷ []) (all_wanted text s (exs_of rest)))),
      rw (c.lesser-fault.ensures) (kept_more (LeftsFail text s (exs_of xs)) (LeftSideFails text s (name_in e) e) (LeftsFail text s (exs_of rest)) c.loop-e.fault c.in_ok-side.side.fault kept side.fault),
    )

pub returns-clause-lefts : goal.returns-clause-lefts
returns-clause-lefts c =
    let text = c.args.text.now in
    let s = scope_of c.args.scope.now in
    let xs = c.args.es.now in
    let k = c.loop-e.e-index in
    let so_far = option_map (λ v. map left_view v.items) c.loop-e.lefts in
    let none : drop k xs ≡ [] = nothing_left xs k (λ l. absurd (omega (arith, l, c.loop-e-test.false))) in
    sym (c.loop-e.invariant.0 ∙ ap (λ (l : List Expr). joined so_far (lefts text s (exs_of l))) none ∙ joined_none so_far)

pub returns-clause-wanted : goal.returns-clause-wanted
returns-clause-wanted c =
    let text = c.args.text.now in
    let s = scope_of c.args.scope.now in
    let xs = c.args.es.now in
    let k = c.loop-e.e-index in
    let types = c.loop-e.wanted.items in
    let none : drop k xs ≡ [] = nothing_left xs k (λ l. absurd (omega (arith, l, c.loop-e-test.false))) in
    sym (c.loop-e.invariant.1 ∙ ap (λ (l : List Expr). types ++ all_wanted text s (exs_of l)) none ∙ append-nil types)

pub returns-clause-fault : goal.returns-clause-fault
returns-clause-fault c =
    let text = c.args.text.now in
    let s = scope_of c.args.scope.now in
    let xs = c.args.es.now in
    let k = c.loop-e.e-index in
    let none : drop k xs ≡ [] = nothing_left xs k (λ l. absurd (omega (arith, l, c.loop-e-test.false))) in
    kept_end (LeftsFail text s (exs_of xs)) (LeftsFail text s (exs_of (drop k xs))) c.loop-e.fault (λ g h. subst (λ (l : List Expr). LeftsFail text s (exs_of l) g) none h) c.loop-e.invariant.2
