use Rattle.std.proofs.Common.{◌≡◌, ◌⊎◌, List, Option, sym, ap, ◌∙◌, subst}
use Rattle.syntax.specs.declared.expression.Expr.{Expr}
use Rattle.syntax.specs.Expressions.{exs_of}
use Rattle.syntax.specs.Statements.{value_spec_of}
use Rattle.type_faults.specs.declared.fault.Fault.{Fault}
use Rattle.type_faults.specs.Least.{IsLeast}
use Rattle.type_faults.proofs.Leasts.{least_join}
use Rattle.names.specs.Scope.{scope_of}
use Rattle.expression_types.specs.Typing.{seen}
use Rattle.expression_types.specs.Faults.{FailsInEach, FailsBefore}
use Rattle.given_values.specs.Passing.{seens}
use Rattle.package_values.specs.ValueFaults.{is_bare, InitialsFail}
use Rattle.package_values.proofs.faults.variables_fault.Goals as goal

pub initials_fault-requires-clause-values : goal.initials_fault-requires-clause-values
initials_fault-requires-clause-values c =
    let text = c.args.text.now in
    let s = scope_of c.args.scope.now in
    ap seens c.deref-2.ensures.value ∙ (c.in_ok-listed.ensures.seen ∙ ap (λ (l : List Expr). seen text s (exs_of l)) c.deref.ensures.value)

pub returns : goal.returns
returns c =
    let text = c.args.text.now in
    let s = scope_of c.args.scope.now in
    let v = value_spec_of c.args.spec.now in
    let listed = c.in_ok-listed.listed in
    let es : c.deref.result.now ≡ c.args.spec.now.values.items = c.deref.ensures.value in
    let each : IsLeast (FailsInEach text s v.values) listed.fault = subst (λ (l : List Expr). IsLeast (FailsInEach text s (exs_of l)) listed.fault) es c.in_ok-listed.ensures.fault in
    let typed : IsLeast (FailsBefore text s v.type_expr) c.fault_before.result =
    subst (λ (o : Option Fault). IsLeast (FailsBefore text s v.type_expr) o) (sym c.fault_before.ensures) c.in_ok-stated.ensures.fault in
    rw (c.lesser.ensures, c.lesser-typed.ensures)
    (least_join (λ f. FailsBefore text s v.type_expr f ⊎ FailsInEach text s v.values f)
    (InitialsFail text s (is_bare v.type_expr v.values) c.args.pos v) _ _
    (least_join (FailsBefore text s v.type_expr) (FailsInEach text s v.values) _ _ typed each) c.in_ok-initials.ensures)
