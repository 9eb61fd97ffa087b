-- Where no rule fails in the declarations of constants and variables of a package, these are what declarations of an accepted package are.
use Rattle.std.proofs.Common.{◌≡◌, ℕ, suc, Bool, true, false, cond, List, [], ◌∷◌, length, ◌⊎◌, inl, inr, Option, Some, None, refl, sym, ap, ◌∙◌, subst}
use Rattle.std.specs.Prelude.{option_and_then, is_some}
use Rattle.std.specs.Option.{option_map}
use Rattle.base.specs.declared.pos.Pos.{Pos}
use Rattle.syntax.specs.FirstBytes.{first_pos}
use Rattle.syntax.specs.Expressions.{Ex as TreeEx, Exs as TreeExs, none, some}
use Rattle.syntax.specs.Statements.{ValueSpec}
use Rattle.syntax.specs.Declarations.{Declaration, constants, variables, types, function}
use Rattle.typed_syntax.specs.Syntax.{Ex, Exs}
use Rattle.type_faults.specs.declared.fault.Fault.{Fault}
use Rattle.type_faults.specs.declared.fault.FaultKind.TheVariants.{Redeclared, WrongCount}
use Rattle.type_faults.specs.Faults.{fault, IsFault}
use Rattle.type_faults.proofs.Decided.{Decided}
use Rattle.type_faults.proofs.Options.{and_then_some, map_some, none_some, same_some}
use Rattle.base.specs.declared.value_type.ValueType.{ValueType}
use Rattle.operators.specs.Operands.{type_of, as_value}
use Rattle.names.specs.declared.scope.Declared.{Declared}
use Rattle.names.specs.declared.scope.Known.{Known}
use Rattle.names.specs.declared.scope.Known.TheVariants as known_as
use Rattle.names.specs.Scope.{Scope}
use Rattle.given_values.specs.declared.wants.Wanted.{Wanted}
use Rattle.given_values.specs.Given.{operand_in, value_in, own_type, many, all_values, values, each, fits, taken}
use Rattle.expression_types.specs.Typing.{spec_wanted, gives, stated_type, seen}
use Rattle.given_values.specs.GivenFaults.{CountFails, SinglesFail, TakeFails}
use Rattle.expression_types.specs.Faults.{FailsInEach, FailsBefore}
use Rattle.given_values.proofs.DecidedValues.{take_decided}
use Rattle.expression_types.proofs.Settled.{seen_decided}
use Rattle.expression_types.proofs.Places.{spec_asks}
use Rattle.given_values.proofs.ValuesFit.{typed_value}
use Rattle.package_values.specs.declared.items.Role.{Role}
use Rattle.package_values.specs.declared.items.Role.TheVariants as role
use Rattle.package_values.specs.Values.{Item, items_in, given_by, variable_type, given_as, settled}
use Rattle.package_values.specs.Needs.{have_form}
use Rattle.package_values.specs.ValueFaults.{is_this_value, value_name_fault, ValuesFail, is_bare, type_asked, SpecFails, SpecsFail, InitialsFail, VariablesFail, AllVariablesFail, DeclarationsFail, NamesFail, EarlyFail}
use Rattle.package_values.specs.Accepted.{TypeIs, ConstantValuesAre, ConstantsAre, AllConstantsAre, OwnTypesAre, VariableTypesAre, InitialsAre, VariablesAre, AllVariablesAre, SpecsAre, NamesAre, IsGiven, DeclarationsAre}
use Rattle.package_values.proofs.Holding.{holding}
use Rattle.package_values.proofs.Giving.{allowed_gives}
use Rattle.package_values.proofs.AllKnown.{NothingFails, behind, settled_is, never_here, type_behind, value_behind, single_behind, forms_behind, no_call_behind, counted_behind, known_there, given_there, settled_behind}

abbrev Never : (Fault → Type 0) → Type 0
Never P = (f : Fault) → P f → ⊥

-- a name that is declared as the rules want
name_there : (k : ℕ) (blank init : Bool) (d : Option Declared) (at : Pos) → Never (IsFault (value_name_fault k blank init d at)) → (blank ≡ true) ⊎ ((init ≡ false) × (is_this_value k d ≡ true))
name_there k true init d at never = inl refl
name_there k false true d at never = absurd (never _ refl)
name_there k false false d at never = inr (refl, by (is_this_value k d) never)
  where
    by : (b : Bool) → Never (IsFault (cond b None (Some (fault Redeclared at)))) → b ≡ true
    by true free = refl
    by false free = absurd (free _ refl)

module _ (text : List ℕ) (s : Scope) (ds : List Declaration) (h : NothingFails text s ds) where
  abbrev r : Scope
  r = holding s (behind text s ds)

  -- ---- constants

  type_is : (t : Option TreeEx) → Never (FailsBefore text r t) → TypeIs text r t
  type_is None never = tt
  type_is (Some e) never = type_behind text s ds h e never

  values_are : (t : Option TreeEx) (es : TreeExs) → Never (FailsBefore text r t) → Never (FailsInEach text r es) → Never (SinglesFail (seen text r es)) → Never (ValuesFail (type_asked text r t) (seen text r es)) → Never (EarlyFail es (seen text r es)) → ConstantValuesAre text r t es
  values_are t none type_never each_never singles never lates = tt
  values_are t (some e es) type_never each_never singles never lates = (
    value_behind text s ds h t e (first_pos e) type_never (λ f x. each_never f (inl x)) (λ f x. singles f (inl x)) (λ f x. never f (inl x)) (λ f x. lates f (inl x)),
    values_are t es type_never (λ f x. each_never f (inr x)) (λ f x. singles f (inr x)) (λ f x. never f (inr x)) (λ f x. lates f (inr x)),
  )

  constants_are : (at : Pos) (v : ValueSpec) → Never (SpecFails text r at v) → ConstantsAre text r v
  constants_are at v never =
      let os = seen text r v.values in
      let all = single_behind text s ds h v.values (λ f x. never f (inl (inr (inl x)))) (λ f x. never f (inl (inr (inr x)))) in
      record {
        type_is = type_is v.type_expr (λ f x. never f (inl (inl x)));
        values = values_are v.type_expr v.values (λ f x. never f (inl (inl x))) (λ f x. never f (inl (inr (inl x)))) (λ f x. never f (inl (inr (inr x)))) (λ f x. never f (inr (inl x))) (λ f x. never f (inr (inr (inr x))));
        as_many = counted_behind text s ds h (length os) (length v.names) (fault WrongCount at)
            (λ f x. never f (inr (inr (inl (subst (λ (b : Bool). CountFails (cond b (Some (length os)) None) (length v.names) (fault WrongCount at) f) (sym all) x)))));
      }

  all_constants_are : (at : Pos) (vs : List ValueSpec) → Never (SpecsFail text r at vs) → AllConstantsAre text r vs
  all_constants_are at [] never = tt
  all_constants_are at (v ∷ vs) never = (constants_are at v (λ f x. never f (inl x)), all_constants_are at vs (λ f x. never f (inr x)))

  -- ---- variables

  -- the values that variables begin with
  types_known : (t : Option TreeEx) → Never (FailsBefore text r t) → (e : TreeEx) → t ≡ Some e → is_some (stated_type text r e) ≡ true
  types_known None never e is = absurd (none_some is)
  types_known (Some u) never e is = subst (λ (x : TreeEx). is_some (stated_type text r x) ≡ true) (same_some is) (ap is_some (type_behind text s ds h u never).1)

  taken_there : (v : ValueSpec) (own : Fault) → Never (FailsBefore text r v.type_expr) → Never (FailsInEach text r v.values) → Never (TakeFails own (spec_wanted text r v) (seen text r v.values)) → (xs : Exs) × (taken (spec_wanted text r v) (seen text r v.values) ≡ Some xs)
  taken_there v own type_never each_never never =
      by (taken (spec_wanted text r v) (seen text r v.values)) (take_decided (seen text r v.values) (FailsInEach text r v.values) (seen_decided text r (settled_behind text s ds h) v.values) own (spec_wanted text r v) (spec_asks text r v.type_expr v.names (types_known v.type_expr type_never)))
    where
      by : (o : Option Exs) → Decided o (λ f. FailsInEach text r v.values f ⊎ TakeFails own (spec_wanted text r v) (seen text r v.values) f) → (xs : Exs) × (o ≡ Some xs)
      by (Some xs) d = (xs, refl)
      by None d = absurd (elim d.1 [ inl x ↦ each_never d.0 x | inr x ↦ never d.0 x ])

  initials_are : (at : Pos) (v : ValueSpec) → Never (FailsBefore text r v.type_expr) → Never (FailsInEach text r v.values) → Never (InitialsFail text r false at v) → InitialsAre text r v
  initials_are at v type_never each_never never =
      let xs = taken_there v (fault WrongCount at) type_never each_never (λ f x. never f (inl x)) in
      record { form = forms_behind text s ds h v.values (λ f x. never f (inr x)); xs = xs.0; taken_is = xs.1 }

  -- a value of a type by itself
  own_type_is : (e : TreeEx) (x : Ex) → value_in (gives text r e) ≡ Some x
      → (t : ValueType) × (own_type (gives text r e) ≡ Some t)
  own_type_is e x is =
      let o = operand_in (gives text r e) in
      let p = and_then_some as_value o x is in
      let t = typed_value p.0 x p.2 in
      let whole : own_type (gives text r e) ≡ Some t.0 =
      ap (option_and_then (λ y. option_and_then (λ v. type_of y) (as_value y))) p.1 ∙ ap (option_and_then (λ (v : Ex). type_of p.0)) p.2 ∙ t.1 in
      (t.0, whole)

  own_types_are : (es : TreeExs) (xs : List Ex) → values (seen text r es) ≡ Some xs → OwnTypesAre text r es
  own_types_are none xs is = tt
  own_types_are (some e es) xs is =
      let p = and_then_some (λ x. option_map (λ ys. x ∷ ys) (values (seen text r es))) (value_in (gives text r e)) xs is in
      let q = map_some (λ ys. p.0 ∷ ys) (values (seen text r es)) xs p.2 in
      (own_type_is e p.0 p.1, own_types_are es q.0 q.1)

  -- what has the form of constants has a value each
  values_there : (es : TreeExs) (ps : List Wanted) (xs : Exs) → have_form text r es ≡ true → taken ps (seen text r es) ≡ Some xs → (ys : List Ex) × (values (seen text r es) ≡ Some ys)
  values_there es ps xs form is =
      let os = seen text r es in
      let p = allowed_gives (fits ps os) (all_values os (many os)) xs is in
      let q = map_some each (values os) xs (ap (all_values os) (sym (no_call_behind text s ds h es form)) ∙ p.1) in (q.0, q.1)

  types_are : (t : Option TreeEx) (v : ValueSpec) → v.type_expr ≡ t → Never (FailsBefore text r t)
      → ((t ≡ None) → InitialsAre text r v) → VariableTypesAre text r t v.values
  types_are (Some e) v is type_never begin = type_behind text s ds h e type_never
  types_are None v is type_never begin =
      let i = begin refl in
      let ys = values_there v.values (spec_wanted text r v) i.xs i.form i.taken_is in
      own_types_are v.values ys.0 ys.1

  variables_are : (at : Pos) (v : ValueSpec) → Never (VariablesFail text r at v) → VariablesAre text r v
  variables_are at v never = by (is_bare v.type_expr v.values) refl
    where
      each_never : Never (FailsInEach text r v.values)
      each_never f x = never f (inl (inr x))

      begin : (b : Bool) → is_bare v.type_expr v.values ≡ b → b ≡ false → InitialsAre text r v
      begin b is b_is =
          initials_are at v (λ f x. never f (inl (inl x))) each_never
          (λ f x. never f (inr (subst (λ (c : Bool). InitialsFail text r c at v f) (sym (is ∙ b_is)) x)))

      untyped : v.type_expr ≡ None → is_bare v.type_expr v.values ≡ false
      untyped t_is = ap (λ (t : Option TreeEx). is_bare t v.values) t_is

      with_types : VariableTypesAre text r v.type_expr v.values
      with_types =
          types_are v.type_expr v refl (λ f x. never f (inl (inl x)))
          (λ t_is. begin (is_bare v.type_expr v.values) refl (untyped t_is))

      by : (b : Bool) → is_bare v.type_expr v.values ≡ b → VariablesAre text r v
      by true is = record { types_are = with_types; values = inl is }
      by false is = record { types_are = with_types; values = inr (begin false is refl) }

  all_variables_are : (at : Pos) (vs : List ValueSpec) → Never (AllVariablesFail text r at vs) → AllVariablesAre text r vs
  all_variables_are at [] never = tt
  all_variables_are at (v ∷ vs) never = (variables_are at v (λ f x. never f (inl x)), all_variables_are at vs (λ f x. never f (inr x)))

  -- ---- all of them

  specs_are : (es : List Declaration) → Never (DeclarationsFail text r es) → SpecsAre text r es
  specs_are [] never = tt
  specs_are (constants at specs ∷ es) never = (all_constants_are at specs (λ f x. never f (inl x)), specs_are es (λ f x. never f (inr x)))
  specs_are (variables at specs ∷ es) never = (all_variables_are at specs (λ f x. never f (inl x)), specs_are es (λ f x. never f (inr x)))
  specs_are (types at specs ∷ es) never = specs_are es never
  specs_are (function g ∷ es) never = specs_are es never

  names_are : (k : ℕ) (is : List Item) → Never (NamesFail text r k is) → NamesAre text r k is
  names_are k [] never = tt
  names_are k (i ∷ is) never = (name_there k _ _ _ i.name.pos (λ f x. never f (inl x)), names_are (suc k) is (λ f x. never f (inr x)))

  is_given : (q : Role) (i : Item) (x : Known) → given_as text q r i ≡ Some x → IsGiven text r q i x
  is_given role.Constant i x is = let p = map_some known_as.Constant (given_by text r i.type_expr i.value) x is in (p.0, sym p.2, p.1)
  is_given role.Variable i x is =
      let found = variable_type text r i.type_expr i.value i.values (length i.names) i.place in
      let p = map_some known_as.Variable found x is in (p.0, sym p.2, p.1)

  pub declarations_are : DeclarationsAre text (settled text s (items_in ds)) ds
  declarations_are =
      subst (λ (v : Scope). DeclarationsAre text v ds) (sym (settled_is text s ds h))
      (record {
        specs = specs_are ds (λ f x. never_here text s ds h f (inl x));
        names = names_are 0 (items_in ds) (λ f x. never_here text s ds h f (inr (inl x)));
        values = λ k i at. let x = known_there text s ds h k i at in (x.0, x.1, is_given i.role i x.0 (given_there text s ds h k i x.0 at x.1));
      })
