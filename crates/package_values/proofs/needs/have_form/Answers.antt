use Rattle.std.proofs.Common.{◌≡◌, [], ◌∷◌, ◌+◌, List, drop, arith, sym, ap, ◌∙◌, refl}
use Rattle.std.specs.Prelude.{◌&&◌}
use Rattle.syntax.specs.declared.expression.Expr.{Expr}
use Rattle.syntax.specs.Expressions.{exs_of}
use Rattle.names.specs.Scope.{scope_of}
use Rattle.type_faults.proofs.Lists.{from_one, nothing_left, and_true}
use Rattle.package_values.specs.Needs.{have_form}
use Rattle.package_values.proofs.needs.have_form.Goals as goal

pub loop-e-init : goal.loop-e-init
loop-e-init c = refl

pub loop-e-preserved : goal.loop-e-preserved
loop-e-preserved c =
    let text = c.args.text.now in
    let s = scope_of c.args.scope.now in
    let xs = c.args.es.now in
    let x : Expr = c.e-item.result in
    let k = c.loop-e.e-index in
    let here : drop k xs ≡ x ∷ drop (k + 1) xs = from_one xs k x c.loop-e-test.true c.e-item.is in
    let kept : have_form text s (exs_of xs) ≡ (c.loop-e.all && have_form text s (exs_of (x ∷ drop (k + 1) xs))) = c.loop-e.invariant ∙ ap (λ (l : List Expr). c.loop-e.all && have_form text s (exs_of l)) here in
    grind (arith, kept)

pub returns : goal.returns
returns c =
    let text = c.args.text.now in
    let s = scope_of c.args.scope.now in
    let xs = c.args.es.now in
    let k = c.loop-e.e-index in
    let none : drop k xs ≡ [] = nothing_left xs k (λ l. absurd (omega (arith, l, c.loop-e-test.false))) in
    sym (c.loop-e.invariant ∙ ap (λ (l : List Expr). c.loop-e.all && have_form text s (exs_of l)) none ∙ and_true c.loop-e.all)
