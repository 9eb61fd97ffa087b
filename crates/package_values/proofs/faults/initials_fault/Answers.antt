use Rattle.std.proofs.Common.{◌≡◌, Bool, false, List, Option, map, ap, ◌∙◌, sym, subst}
use Rattle.base.specs.declared.value_type.ValueType.{ValueType}
use Rattle.syntax.specs.declared.expression.Expr.{Expr}
use Rattle.syntax.specs.declared.expression.Name.{Name}
use Rattle.syntax.specs.Expressions.{exs_of}
use Rattle.syntax.specs.Statements.{value_spec_of}
use Rattle.type_faults.specs.declared.fault.FaultKind.TheVariants.{WrongCount}
use Rattle.type_faults.specs.Faults.{fault}
use Rattle.type_faults.specs.Least.{IsLeast}
use Rattle.type_faults.proofs.Leasts.{least_join}
use Rattle.names.specs.Scope.{scope_of}
use Rattle.given_values.specs.declared.wants.Wanted.{Wanted}
use Rattle.given_values.specs.Given.{Seen, wanted_before}
use Rattle.expression_types.specs.Typing.{spec_wanted, seen}
use Rattle.given_values.specs.GivenFaults.{TakeFails}
use Rattle.given_values.specs.Passing.{seens}
use Rattle.expression_types.specs.Passing.{type_before}
use Rattle.package_values.specs.ValueFaults.{is_bare, FormsFail, InitialsFail}
use Rattle.package_values.proofs.faults.initials_fault.Goals as goal

pub returns : goal.returns
returns c =
    let text = c.args.text.now in
    let s = scope_of c.args.scope.now in
    let v = value_spec_of c.args.spec.now in
    let own = fault WrongCount c.args.pos in
    let bare : is_bare v.type_expr v.values ≡ false =
    sym (c.is_bare.ensures ∙ ap (λ (l : List Expr). is_bare v.type_expr (exs_of l)) c.deref.ensures.value) ∙ c.if-is_bare.false in
    let places : c.deref-3.result.now ≡ spec_wanted text s v =
    c.deref-3.ensures.value ∙ c.in_ok-wanted.ensures ∙ ap (λ (l : List Name). map (λ (n : Name). wanted_before (type_before c.args.stated.now)) l) c.deref-2.ensures.value
    ∙ ap (λ (o : Option (Option ValueType)). map (λ (n : Name). wanted_before o) v.names) c.requires.types in
    let take1 : IsLeast (TakeFails own (spec_wanted text s v) (seens c.args.items.now)) c.take_fault-taken.result =
    subst (λ (l : List Wanted). IsLeast (TakeFails own l (seens c.args.items.now)) c.take_fault-taken.result) places c.take_fault-taken.ensures in
    let take2 : IsLeast (TakeFails own (spec_wanted text s v) (seen text s v.values)) c.take_fault-taken.result =
    subst (λ (l : List Seen). IsLeast (TakeFails own (spec_wanted text s v) l) c.take_fault-taken.result) c.requires.values take1 in
    let forms : IsLeast (FormsFail text s v.values) c.forms_fault.result =
    subst (λ (l : List Expr). IsLeast (FormsFail text s (exs_of l)) c.forms_fault.result) c.deref-4.ensures.value c.forms_fault.ensures in
    subst (λ (b : Bool). IsLeast (InitialsFail text s b c.args.pos v) c.lesser.result) (sym bare)
    (rw (c.lesser.ensures) (least_join (TakeFails own (spec_wanted text s v) (seen text s v.values)) (FormsFail text s v.values) _ _ take2 forms))
