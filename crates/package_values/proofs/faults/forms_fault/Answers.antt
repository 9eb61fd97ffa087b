use Rattle.std.proofs.Common.{◌≡◌, Bool, [], ◌∷◌, ◌+◌, List, Option, drop, ap, ◌∙◌, arith, subst}
use Rattle.base.specs.declared.pos.Pos.{Pos}
use Rattle.syntax.specs.declared.expression.Expr.{Expr}
use Rattle.syntax.specs.FirstBytes.{first_pos}
use Rattle.syntax.specs.Expressions.{ex_of, exs_of}
use Rattle.type_faults.specs.declared.fault.Fault.{Fault}
use Rattle.type_faults.specs.Faults.{IsFault}
use Rattle.type_faults.proofs.Leasts.{Kept, kept_start, kept_more, kept_end, leaf}
use Rattle.type_faults.proofs.Lists.{from_one, nothing_left}
use Rattle.names.specs.Scope.{scope_of}
use Rattle.package_values.specs.Needs.{has_form}
use Rattle.package_values.specs.ValueFaults.{form_fault, FormsFail}
use Rattle.package_values.proofs.faults.forms_fault.Goals as goal

pub loop-value-init : goal.loop-value-init
loop-value-init c = kept_start _

pub loop-value-preserved : goal.loop-value-preserved
loop-value-preserved c =
    let text = c.args.text.now in
    let s = scope_of c.args.scope.now in
    let xs = c.args.values.now in
    let k = c.loop-value.value-index in
    let x : Expr = c.value-item.result in
    let all = FormsFail text s (exs_of xs) in
    let rest = FormsFail text s (exs_of (drop (k + 1) xs)) in
    let own : Option Fault = form_fault (has_form text s (ex_of x)) (first_pos (ex_of x)) in
    let own_is : c.form_fault.result ≡ own = c.form_fault.ensures ∙ ap (λ (b : Bool). form_fault b c.pos.result) c.has_form.ensures ∙ ap (λ (p : Pos). form_fault (has_form text s (ex_of x)) p) c.pos.ensures in
    let here : drop k xs ≡ x ∷ drop (k + 1) xs = from_one xs k x c.loop-value-test.true c.value-item.is in
    let kept = subst (λ (l : List Expr). Kept all (FormsFail text s (exs_of l)) c.loop-value.fault) here c.loop-value.invariant in
    rw (c.lesser-fault.ensures, own_is) (kept_more all (IsFault own) rest c.loop-value.fault own kept (leaf own))

pub returns : goal.returns
returns c =
    let text = c.args.text.now in
    let s = scope_of c.args.scope.now in
    let xs = c.args.values.now in
    let k = c.loop-value.value-index in
    let none : drop k xs ≡ [] = nothing_left xs k (λ l. absurd (omega (arith, l, c.loop-value-test.false))) in
    kept_end (FormsFail text s (exs_of xs)) (FormsFail text s (exs_of (drop k xs))) c.loop-value.fault (λ g h. subst (λ (l : List Expr). FormsFail text s (exs_of l) g) none h) c.loop-value.invariant
