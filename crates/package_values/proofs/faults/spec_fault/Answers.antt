use Rattle.std.proofs.Common.{◌≡◌, ◌⊎◌, ℕ, List, Option, length, sym, ap, ◌∙◌, subst, arith}
use Rattle.syntax.specs.declared.expression.Expr.{Expr}
use Rattle.syntax.specs.Expressions.{exs_of}
use Rattle.syntax.specs.Statements.{value_spec_of}
use Rattle.type_faults.specs.declared.fault.Fault.{Fault}
use Rattle.type_faults.specs.declared.fault.FaultKind.TheVariants.{WrongCount}
use Rattle.base.specs.declared.value_type.ValueType.{ValueType}
use Rattle.type_faults.specs.Least.{IsLeast}
use Rattle.type_faults.specs.Faults.{fault}
use Rattle.type_faults.proofs.Leasts.{least_join, leaf}
use Rattle.names.specs.Scope.{scope_of}
use Rattle.given_values.specs.Given.{Seen}
use Rattle.expression_types.specs.Typing.{seen}
use Rattle.given_values.specs.GivenFaults.{SinglesFail, CountFails, count_fault}
use Rattle.expression_types.specs.Faults.{FailsInEach, FailsBefore}
use Rattle.given_values.specs.Passing.{seens}
use Rattle.package_values.specs.ValueFaults.{single_count, ValuesFail, asked_before, type_asked, EarlyFail}
use Rattle.package_values.proofs.faults.spec_fault.Goals as goal

pub returns : goal.returns
returns c =
    let text = c.args.text.now in
    let s = scope_of c.args.scope.now in
    let v = value_spec_of c.args.spec.now in
    let os = seen text s v.values in
    let t = type_asked text s v.type_expr in
    let own = fault WrongCount c.args.pos in
    let typed : IsLeast (FailsBefore text s v.type_expr) c.fault_before.result =
    subst (λ (o : Option Fault). IsLeast (FailsBefore text s v.type_expr) o) (sym c.fault_before.ensures) c.in_ok-stated.ensures.fault in
    let asked : c.type_asked.result ≡ t = c.type_asked.ensures ∙ ap asked_before c.in_ok-stated.ensures.types in
    let listed = c.in_ok-listed.listed in
    let es : c.deref.result.now ≡ c.args.spec.now.values.items = c.deref.ensures.value in
    let seen_is : seens listed.items.items ≡ os = c.in_ok-listed.ensures.seen ∙ ap (λ (l : List Expr). seen text s (exs_of l)) es in
    let first : seens c.deref-2.result.now ≡ os = ap seens c.deref-2.ensures.value ∙ seen_is in
    let second : seens c.deref-6.result.now ≡ os = ap seens c.deref-6.ensures.value ∙ seen_is in
    let third : seens c.deref-3.result.now ≡ os = ap seens c.deref-3.ensures.value ∙ seen_is in
    let fourth : seens c.deref-5.result.now ≡ os = ap seens c.deref-5.ensures.value ∙ seen_is in
    let each : IsLeast (FailsInEach text s v.values) listed.fault = subst (λ (l : List Expr). IsLeast (FailsInEach text s (exs_of l)) listed.fault) es c.in_ok-listed.ensures.fault in
    let singles : IsLeast (SinglesFail os) c.singles_fault.result = subst (λ (l : List Seen). IsLeast (SinglesFail l) c.singles_fault.result) first c.singles_fault.ensures in
    let values1 : IsLeast (ValuesFail c.type_asked.result os) c.values_fault.result = subst (λ (l : List Seen). IsLeast (ValuesFail c.type_asked.result l) c.values_fault.result) second c.values_fault.ensures in
    let values : IsLeast (ValuesFail t os) c.values_fault.result = subst (λ (u : Option ValueType). IsLeast (ValuesFail u os) c.values_fault.result) asked values1 in
    let many : c.len.result ≡ length v.names = omega (arith, c.len.ensures, c.args.spec.now.names.ok) in
    let counted : c.count_fault.result ≡ count_fault (single_count os) (length v.names) own =
    c.count_fault.ensures ∙ ap (λ (o : Option ℕ). count_fault o c.len.result own) (c.single_count.ensures ∙ ap single_count third) ∙ ap (λ (n : ℕ). count_fault (single_count os) n own) many in
    let count : IsLeast (CountFails (single_count os) (length v.names) own) c.count_fault.result =
    rw (counted) (leaf (count_fault (single_count os) (length v.names) own)) in
    let C : Fault → Type 0 = λ f. CountFails (single_count os) (length v.names) own f in
    let L : Fault → Type 0 = λ f. EarlyFail v.values os f in
    let late1 : IsLeast (EarlyFail (exs_of c.deref-4.result.now) os) c.early_faults.result = subst (λ (l : List Seen). IsLeast (EarlyFail (exs_of c.deref-4.result.now) l) c.early_faults.result) fourth c.early_faults.ensures in
    let late : IsLeast L c.early_faults.result = subst (λ (l : List Expr). IsLeast (EarlyFail (exs_of l) os) c.early_faults.result) c.deref-4.ensures.value late1 in
    rw (c.lesser.ensures, c.lesser-typed.ensures, c.lesser-values.ensures, c.lesser-counted.ensures, c.lesser-expressions.ensures)
    (least_join (λ f. FailsBefore text s v.type_expr f ⊎ (FailsInEach text s v.values f ⊎ SinglesFail os f)) (λ f. ValuesFail t os f ⊎ (C f ⊎ L f)) _ _
    (least_join (FailsBefore text s v.type_expr) (λ f. FailsInEach text s v.values f ⊎ SinglesFail os f) _ _ typed (least_join (FailsInEach text s v.values) (SinglesFail os) _ _ each singles))
    (least_join (ValuesFail t os) (λ f. C f ⊎ L f) _ _ values (least_join C L _ _ count late)))
