use Rattle.std.proofs.Common.{◌≡◌, ℕ, List, Option, map, ap, ap₂, ◌∙◌, subst}
use Rattle.std.specs.Option.{option_map, option_and_then}
use Rattle.typed_syntax.specs.Syntax.{Exs}
use Rattle.typed.specs.View.{exs_of_values}
use Rattle.syntax.specs.Statements.{ValueSpec}
use Rattle.names.specs.Scope.{Scope}
use Rattle.given_values.specs.declared.gives.Item.{Item}
use Rattle.syntax.specs.declared.expression.Name.{Name}
use Rattle.base.specs.declared.value_type.ValueType.{ValueType}
use Rattle.syntax.specs.Expressions.{exs_of}
use Rattle.syntax.specs.Statements.{value_spec_of}
use Rattle.type_faults.specs.declared.fault.FaultKind.TheVariants.{WrongCount}
use Rattle.type_faults.specs.Least.{IsLeast}
use Rattle.type_faults.specs.Faults.{fault}
use Rattle.type_faults.proofs.Leasts.{least_join}
use Rattle.names.specs.Scope.{scope_of}
use Rattle.given_values.specs.declared.wants.Wanted.{Wanted}
use Rattle.given_values.specs.Given.{Seen, wanted_before, taken, value_types}
use Rattle.expression_types.specs.Typing.{spec_wanted, seen}
use Rattle.given_values.specs.GivenFaults.{TakeFails}
use Rattle.expression_types.specs.Faults.{FailsInEach}
use Rattle.syntax.specs.declared.expression.Expr.{Expr}
use Rattle.given_values.specs.Passing.{seens}
use Rattle.expression_types.specs.Passing.{type_before}
use Rattle.simple_statements.proofs.variables.check_values.Goals as goal

pub returns-clause-fault : goal.returns-clause-fault
returns-clause-fault c =
    let text = c.args.text.now in
    let s = scope_of c.args.scope.now in
    let v = value_spec_of c.args.spec.now in
    let listed = c.in_ok-listed.listed in
    let own = fault WrongCount c.args.pos in
    let es : c.deref.result.now ≡ c.args.spec.now.values.items = c.deref.ensures.value in
    let each : IsLeast (FailsInEach text s v.values) listed.fault = subst (λ (l : List Expr). IsLeast (FailsInEach text s (exs_of l)) listed.fault) es c.in_ok-listed.ensures.fault in
    let ps : c.deref-3.result.now ≡ spec_wanted text s v = c.deref-3.ensures.value ∙ c.in_ok-wanted.ensures ∙ ap (λ (l : List Name). map (λ (n : Name). wanted_before (type_before c.args.stated.now)) l) c.deref-2.ensures.value
    ∙ ap (λ (o : Option (Option ValueType)). map (λ (n : Name). wanted_before o) c.args.spec.now.names.items) c.requires in
    let os : seens c.deref-4.result.now ≡ seen text s v.values = ap seens c.deref-4.ensures.value ∙ c.in_ok-listed.ensures.seen ∙ ap (λ (l : List Expr). seen text s (exs_of l)) es in
    let taken : IsLeast (TakeFails own (spec_wanted text s v) (seen text s v.values)) c.take_fault-values_fault.result =
    subst (λ (l : List Seen). IsLeast (TakeFails own (spec_wanted text s v) l) c.take_fault-values_fault.result) os
    (subst (λ (l : List Wanted). IsLeast (TakeFails own l (seens c.deref-4.result.now)) c.take_fault-values_fault.result) ps c.take_fault-values_fault.ensures) in
    rw (c.lesser.ensures) (least_join _ _ listed.fault c.take_fault-values_fault.result each taken)

-- the places and the values, by what they are in memory
module _ {A : Type 0} (text : List ℕ) (s : Scope) (v : ValueSpec) (places : List Wanted) (items : List Item) (here : places ≡ spec_wanted text s v) (all : seens items ≡ seen text s v.values) where
  for_spec : (k : List Wanted → List Seen → A) → k places (seens items) ≡ k (spec_wanted text s v) (seen text s v.values)
  for_spec k = ap (λ (l : List Wanted). k l (seens items)) here ∙ ap (λ (l : List Seen). k (spec_wanted text s v) l) all

wanted_are : (c : goal.After-drop-wanted-2) → c.in_ok-wanted.wanted.items ≡ spec_wanted c.args.text.now (scope_of c.args.scope.now) (value_spec_of c.args.spec.now)
wanted_are c =
    c.in_ok-wanted.ensures ∙ ap (λ (l : List Name). map (λ (n : Name). wanted_before (type_before c.args.stated.now)) l) c.deref-2.ensures.value
    ∙ ap (λ (o : Option (Option ValueType)). map (λ (n : Name). wanted_before o) c.args.spec.now.names.items) c.requires

seen_are : (c : goal.After-drop-wanted-2) → seens c.in_ok-listed.listed.items.items ≡ seen c.args.text.now (scope_of c.args.scope.now) (exs_of c.args.spec.now.values.items)
seen_are c = c.in_ok-listed.ensures.seen ∙ ap (λ (l : List Expr). seen c.args.text.now (scope_of c.args.scope.now) (exs_of l)) c.deref.ensures.value

values_are : (c : goal.After-drop-wanted-2) → option_map exs_of_values c.in_ok-values.values ≡ taken (spec_wanted c.args.text.now (scope_of c.args.scope.now) (value_spec_of c.args.spec.now)) (seen c.args.text.now (scope_of c.args.scope.now) (exs_of c.args.spec.now.values.items))
values_are c =
    c.in_ok-values.ensures ∙ ap (λ (l : List Wanted). taken l (seens c.in_ok-listed.listed.items.items)) c.deref-6.ensures.value
    ∙ for_spec c.args.text.now (scope_of c.args.scope.now) (value_spec_of c.args.spec.now) c.in_ok-wanted.wanted.items c.in_ok-listed.listed.items.items (wanted_are c) (seen_are c) taken

pub returns-clause-values : goal.returns-clause-values
returns-clause-values c = values_are c

pub returns-clause-types : goal.returns-clause-types
returns-clause-types c =
    let text = c.args.text.now in
    let s = scope_of c.args.scope.now in
    let v = value_spec_of c.args.spec.now in
    let types = c.in_ok-types.ensures ∙ ap (λ (l : List Item). value_types (seens l)) c.deref-5.ensures.value ∙ ap value_types (seen_are c) in
    c.types_where-types.ensures ∙ ap₂ (λ (t : Option (List ValueType)) (o : Option Exs). option_and_then (λ (es : Exs). t) o) types (values_are c)
