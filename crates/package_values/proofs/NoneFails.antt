-- Where the declarations of constants and variables are those of an accepted package, no rule of them fails but that none needs itself.
use Rattle.std.proofs.Common.{◌≡◌, ℕ, suc, ◌<◌, Bool, true, false, cond, List, [], ◌∷◌, length, ◌⊎◌, inl, inr, Option, Some, None, refl, sym, ap, ◌∙◌, subst, arith, option_and_then}
use Rattle.std.proofs.lemmas.Bool.{eq-eqb}
use Rattle.std.specs.Prelude.{is_some, ◌&&◌}
use Rattle.std.specs.List.{AllByRecursion}
use Rattle.base.specs.declared.pos.Pos.{Pos}
use Rattle.base.specs.Types.{same_type}
use Rattle.syntax.specs.FirstBytes.{first_pos}
use Rattle.syntax.specs.Expressions.{Ex as TreeEx, Exs as TreeExs, none, some}
use Rattle.syntax.specs.Statements.{ValueSpec}
use Rattle.syntax.specs.Declarations.{Declaration, constants, variables, types, function}
use Rattle.typed.specs.Formed.{IsFormed}
use Rattle.type_faults.specs.declared.fault.Fault.{Fault}
use Rattle.type_faults.specs.declared.fault.FaultKind.TheVariants.{Redeclared, Mismatch, WrongCount, ConstRange}
use Rattle.type_faults.specs.Faults.{fault, IsFault}
use Rattle.type_faults.proofs.Decided.{Decided}
use Rattle.type_faults.proofs.Options.{and_then_some, none_some, same_some}
use Rattle.base.specs.declared.value_type.ValueType.{ValueType}
use Rattle.constants.specs.declared.constant.Fixed.{Fixed}
use Rattle.constants.specs.Constants.{constant_type, holds}
use Rattle.operators.specs.Operands.{Operand, constant, value, nil}
use Rattle.names.specs.declared.scope.Declared.{Declared}
use Rattle.names.specs.Scope.{Scope}
use Rattle.names.specs.declared.scope.Known.{Known}
use Rattle.names.proofs.Settled.{AreSound, IsKnown, IsTyped, IsSettled}
use Rattle.given_values.specs.Given.{operand_in, are_single, taken}
use Rattle.expression_types.specs.Typing.{spec_wanted, gives, stated_type, seen, call_in, early, early_gives}
use Rattle.given_values.specs.GivenFaults.{CountFails, SinglesFail, TakeFails}
use Rattle.expression_types.specs.Faults.{Fails, StatedFails, FailsInEach, FailsBefore, FailsAsOperand, early_fault}
use Rattle.given_values.proofs.DecidedValues.{operand_decided, take_decided}
use Rattle.expression_types.proofs.Settled.{gives_decided, stated_decided, seen_decided}
use Rattle.expression_types.proofs.Places.{spec_asks}
use Rattle.package_values.specs.Values.{Item, items_in, with_type, accepted, given_by, settled, as_constant}
use Rattle.package_values.specs.Needs.{has_form, have_form}
use Rattle.package_values.specs.ValueFaults.{is_this_value, value_fault, value_name_fault, single_count, ValuesFail, is_bare, type_asked, SpecFails, SpecsFail, form_fault, FormsFail, InitialsFail, VariablesFail, AllVariablesFail, DeclarationsFail, NamesFail, EarlyFail}
use Rattle.package_values.specs.Accepted.{TypeIs, ConstantValuesAre, ConstantsAre, AllConstantsAre, VariableTypesAre, InitialsAre, VariablesAre, AllVariablesAre, SpecsAre, NamesAre, DeclarationsAre}
use Rattle.package_values.proofs.Growth.{known, rounds_many}
use Rattle.package_values.proofs.Holding.{holding}
use Rattle.package_values.proofs.Giving.{give, monotone, a_constant, allowed_gives, looks_are, late}
use Rattle.package_values.proofs.AllKnown.{IsTypedOnceKnown, typed_by, all_map, behind}

abbrev Never : (Fault → Type 0) → Type 0
Never P = (f : Fault) → P f → ⊥

-- where something is given no rule fails
given_never : {A : Type 0} (o : Option A) (x : A) (P : Fault → Type 0) → o ≡ Some x → Decided o P → Never P
given_never None x P is d = absurd (none_some is)
given_never (Some y) x P is d = d

both_true : (a b : Bool) → (a && b) ≡ true → (a ≡ true) × (b ≡ true)
both_true true b is = (refl, is)
both_true false b is = cc is

name_never : (k : ℕ) (blank init : Bool) (d : Option Declared) (at : Pos) → (blank ≡ true) ⊎ ((init ≡ false) × (is_this_value k d ≡ true)) → Never (IsFault (value_name_fault k blank init d at))
name_never k blank init d at (inl is) f h = subst (λ (b : Bool). IsFault (value_name_fault k b init d at) f) is h
name_never k true init d at (inr is) f h = h
name_never k false init d at (inr is) f h =
    let here = subst (λ (b : Bool). IsFault (value_name_fault k false b d at) f) is.0 h in subst (λ (b : Bool). IsFault (cond b None (Some (fault Redeclared at))) f) is.1 here

module _ (text : List ℕ) (r : Scope) (settled1 : IsSettled r) where
  type_never : (e : TreeEx) (t : ValueType) → stated_type text r e ≡ Some t → Never (StatedFails text r e)
  type_never e t is = given_never (stated_type text r e) t (StatedFails text r e) is (stated_decided text r settled1 e)

  types_never : (t : Option TreeEx) → TypeIs text r t → Never (FailsBefore text r t)
  types_never None is f h = h
  types_never (Some e) is f h = type_never e is.0 is.1 f h

  -- ---- constants

  fits_type : (u : ValueType) (c f : Fixed) → with_type u c ≡ Some f → (same_type u (constant_type c.value_type c.value) ≡ true) × (holds u c.value ≡ true)
  fits_type u c f is = let p = allowed_gives (same_type u (constant_type c.value_type c.value) && holds u c.value) (Some (record { value_type = Some u; value = c.value })) f is in both_true _ _ p.0

  fitting_never : (t : Option TreeEx) (c f : Fixed) (at : Pos) → accepted text r t c ≡ Some f → Never (IsFault (value_fault (type_asked text r t) at (Some (constant c))))
  fitting_never None c f at is g h = h
  fitting_never (Some e) c f at is g h =
      let p = and_then_some (λ u. with_type u c) (stated_type text r e) f is in
      let q = fits_type p.0 c f p.2 in
      let here = subst (λ (o : Option ValueType). IsFault (value_fault o at (Some (constant c))) g) p.1 h in
      subst (λ (b : Bool). IsFault (cond b None (Some (fault ConstRange at))) g) q.1
      (subst (λ (b : Bool). IsFault (cond b (cond (holds p.0 c.value) None (Some (fault ConstRange at))) (Some (fault Mismatch at))) g) q.0 here)

  -- what is given early has no call
  never_late : (found : Option Pos) (o : Option Operand) (x : Operand) → option_and_then (early found) o ≡ Some x → Never (IsFault (early_fault found o))
  never_late found None x is f h = h
  never_late None (Some (constant c)) x is f h = h
  never_late (Some at) (Some (constant c)) x is f h = none_some is
  never_late found (Some (value t y)) x is f h = h
  never_late found (Some nil) x is f h = h

  value_never : (t : Option TreeEx) (e : TreeEx) (f : Fixed) → given_by text r t (Some e) ≡ Some f
      → Never (FailsAsOperand text r e) × Never (IsFault (value_fault (type_asked text r t) (first_pos e) (operand_in (gives text r e)))) × ((x : Operand) × (operand_in (gives text r e) ≡ Some x))
      × Never (IsFault (early_fault (call_in e) (operand_in (gives text r e))))
  value_never t e f is =
      let p = and_then_some (accepted text r t) (option_and_then as_constant (early_gives text r e)) f is in
      let y = a_constant (early_gives text r e) p.0 p.1 in
      let x = late (call_in e) (operand_in (gives text r e)) (constant p.0) y in (
        given_never (operand_in (gives text r e)) (constant p.0) (FailsAsOperand text r e) x (operand_decided (gives text r e) (Fails text r e) (gives_decided text r settled1 e)),
        λ g h. fitting_never t p.0 f (first_pos e) p.2 g (subst (λ (o : Option Operand). IsFault (value_fault (type_asked text r t) (first_pos e) o) g) x h),
        (constant p.0, x),
        never_late (call_in e) (operand_in (gives text r e)) (constant p.0) y,
      )

  values_never : (t : Option TreeEx) (es : TreeExs) → ConstantValuesAre text r t es
      → Never (FailsInEach text r es) × Never (SinglesFail (seen text r es)) × Never (ValuesFail (type_asked text r t) (seen text r es)) × (are_single (seen text r es) ≡ true) × Never (EarlyFail es (seen text r es))
  values_never t none are = (λ f h. h, λ f h. h, λ f h. h, refl, λ f h. h)
  values_never t (some e es) are =
      let v = value_never t e are.0.0 are.0.1 in
      let rest = values_never t es are.1 in (
        λ f h. elim h [ inl x ↦ v.0 f (inl x) | inr x ↦ rest.0 f x ],
        λ f h. elim h [ inl x ↦ v.0 f (inr x) | inr x ↦ rest.1 f x ],
        λ f h. elim h [ inl x ↦ v.1 f x | inr x ↦ rest.2 f x ],
        ap (λ (o : Option Operand). is_some o && are_single (seen text r es)) v.2.1 ∙ rest.3,
        λ f h. elim h [ inl x ↦ v.3 f x | inr x ↦ rest.4 f x ],
      )

  spec_never : (at : Pos) (v : ValueSpec) → ConstantsAre text r v → Never (SpecFails text r at v)
  spec_never at v are f h = by h
    where
      all : Never (FailsInEach text r v.values) × Never (SinglesFail (seen text r v.values)) × Never (ValuesFail (type_asked text r v.type_expr) (seen text r v.values)) × (are_single (seen text r v.values) ≡ true) × Never (EarlyFail v.values (seen text r v.values))
      all = values_never v.type_expr v.values are.values

      own : Fault
      own = fault WrongCount at

      count : CountFails (single_count (seen text r v.values)) (length v.names) own f → ⊥
      count x =
          let m = length (seen text r v.values) in
          let here = subst (λ (b : Bool). CountFails (cond b (Some m) None) (length v.names) own f) all.3 x in
          subst (λ (b : Bool). IsFault (cond b None (Some own)) f) (eq-eqb m (length v.names) are.as_many) here

      by : SpecFails text r at v f → ⊥
      by (inl (inl x)) = types_never v.type_expr are.type_is f x
      by (inl (inr (inl x))) = all.0 f x
      by (inl (inr (inr x))) = all.1 f x
      by (inr (inl x)) = all.2 f x
      by (inr (inr (inl x))) = count x
      by (inr (inr (inr x))) = all.4 f x

  specs_never : (at : Pos) (vs : List ValueSpec) → AllConstantsAre text r vs → Never (SpecsFail text r at vs)
  specs_never at [] are f h = h
  specs_never at (v ∷ vs) are f (inl h) = spec_never at v are.0 f h
  specs_never at (v ∷ vs) are f (inr h) = specs_never at vs are.1 f h

  -- ---- variables

  forms_never : (es : TreeExs) → have_form text r es ≡ true → Never (FormsFail text r es)
  forms_never none is f h = h
  forms_never (some e es) is f (inl h) = let p = both_true (has_form text r e) (have_form text r es) is in subst (λ (b : Bool). IsFault (form_fault b (first_pos e)) f) p.0 h
  forms_never (some e es) is f (inr h) = let p = both_true (has_form text r e) (have_form text r es) is in forms_never es p.1 f h

  variable_type_never : (t : Option TreeEx) (es : TreeExs) → VariableTypesAre text r t es → Never (FailsBefore text r t)
  variable_type_never None es are f h = h
  variable_type_never (Some e) es are f h = type_never e are.0 are.1 f h

  -- values that are taken
  types_known : (t : Option TreeEx) (es : TreeExs) → VariableTypesAre text r t es → (e : TreeEx) → t ≡ Some e → is_some (stated_type text r e) ≡ true
  types_known None es are e is = absurd (none_some is)
  types_known (Some u) es are e is = subst (λ (x : TreeEx). is_some (stated_type text r x) ≡ true) (same_some is) (ap is_some are.1)

  taken_never : (v : ValueSpec) (own : Fault) → VariableTypesAre text r v.type_expr v.values → InitialsAre text r v → Never (λ f. FailsInEach text r v.values f ⊎ TakeFails own (spec_wanted text r v) (seen text r v.values) f)
  taken_never v own typed are =
      given_never (taken (spec_wanted text r v) (seen text r v.values)) are.xs _ are.taken_is (take_decided (seen text r v.values) (FailsInEach text r v.values) (seen_decided text r settled1 v.values) own (spec_wanted text r v) (spec_asks text r v.type_expr v.names (types_known v.type_expr v.values typed)))

  -- a variable with a type alone has no values
  bare_never : (t : Option TreeEx) (es : TreeExs) → is_bare t es ≡ true → Never (FailsInEach text r es)
  bare_never (Some e) none is f h = h
  bare_never (Some e) (some x es) is f h = cc is
  bare_never None es is f h = cc is

  each_never : (at : Pos) (v : ValueSpec) → VariableTypesAre text r v.type_expr v.values → (is_bare v.type_expr v.values ≡ true) ⊎ InitialsAre text r v → Never (FailsInEach text r v.values)
  each_never at v typed (inl is) f h = bare_never v.type_expr v.values is f h
  each_never at v typed (inr are) f h = taken_never v (fault WrongCount at) typed are f (inl h)

  initials_never : (b : Bool) (at : Pos) (v : ValueSpec) → VariableTypesAre text r v.type_expr v.values → is_bare v.type_expr v.values ≡ b → (is_bare v.type_expr v.values ≡ true) ⊎ InitialsAre text r v → Never (InitialsFail text r b at v)
  initials_never true at v typed b_is are f h = h
  initials_never false at v typed b_is (inl is) f h = let bad : false ≡ true = sym b_is ∙ is in cc bad
  initials_never false at v typed b_is (inr are) f (inl h) = taken_never v (fault WrongCount at) typed are f (inr h)
  initials_never false at v typed b_is (inr are) f (inr h) = forms_never v.values are.form f h

  variables_never : (at : Pos) (v : ValueSpec) → VariablesAre text r v → Never (VariablesFail text r at v)
  variables_never at v are f (inl (inl h)) = variable_type_never v.type_expr v.values are.types_are f h
  variables_never at v are f (inl (inr h)) = each_never at v are.types_are are.values f h
  variables_never at v are f (inr h) = initials_never (is_bare v.type_expr v.values) at v are.types_are refl are.values f h

  all_variables_never : (at : Pos) (vs : List ValueSpec) → AllVariablesAre text r vs → Never (AllVariablesFail text r at vs)
  all_variables_never at [] are f h = h
  all_variables_never at (v ∷ vs) are f (inl h) = variables_never at v are.0 f h
  all_variables_never at (v ∷ vs) are f (inr h) = all_variables_never at vs are.1 f h

  -- ---- all of them

  declarations_never : (ds : List Declaration) → SpecsAre text r ds → Never (DeclarationsFail text r ds)
  declarations_never [] are f h = h
  declarations_never (constants at specs ∷ ds) are f (inl h) = specs_never at specs are.0 f h
  declarations_never (constants at specs ∷ ds) are f (inr h) = declarations_never ds are.1 f h
  declarations_never (variables at specs ∷ ds) are f (inl h) = all_variables_never at specs are.0 f h
  declarations_never (variables at specs ∷ ds) are f (inr h) = declarations_never ds are.1 f h
  declarations_never (types at specs ∷ ds) are f h = declarations_never ds are f h
  declarations_never (function g ∷ ds) are f h = declarations_never ds are f h

  names_never : (k : ℕ) (is : List Item) → NamesAre text r k is → Never (NamesFail text r k is)
  names_never k [] are f h = h
  names_never k (i ∷ is) are f (inl h) = name_never k _ _ _ i.name.pos are.0 f h
  names_never k (i ∷ is) are f (inr h) = names_never (suc k) is are.1 f h

  pub none_fails : (ds : List Declaration) → DeclarationsAre text r ds → Never (λ f. DeclarationsFail text r ds f ⊎ NamesFail text r 0 (items_in ds) f)
  none_fails ds are f (inl h) = declarations_never ds are.specs f h
  none_fails ds are f (inr h) = names_never 0 (items_in ds) are.names f h

-- where something is known of each constant and variable, and each function has a signature, each declaration has a type
module _ (text : List ℕ) (s : Scope) (ds : List Declaration) where
  abbrev found : List (Option Known)
  found = behind text s ds

  found_is : settled text s (items_in ds) ≡ holding s found
  found_is = looks_are text s (length (items_in ds)) s.values (items_in ds)

  many_found : length found ≡ length s.values
  many_found = rounds_many (give text s) (monotone text s) (length (items_in ds)) s.values (items_in ds)

  pub known_settled : AllByRecursion (IsTypedOnceKnown s.types s.signatures (length s.values)) s.declared → IsFormed s.types → AreSound (settled text s (items_in ds)).values
      → ((k : ℕ) → k < length s.values → (x : Known) × (known (settled text s (items_in ds)).values k ≡ Some x)) → IsSettled (settled text s (items_in ds))
  known_settled typed formed sound all =
      subst (λ (v : Scope). IsSettled v) (sym found_is)
      (record { all = all_map (IsTypedOnceKnown s.types s.signatures (length s.values)) (IsTyped s.types s.signatures found) s.declared (λ d x. typed_by s.types s.signatures found has_value (length s.values) (sym many_found) d x) typed; formed = formed })
    where
      has_value : (k : ℕ) → k < length found → IsKnown (known found k)
      has_value k l =
          let many = many_found in
          let x = all k (omega (arith, l, many)) in
          let there : known found k ≡ Some x.0 = sym (ap (λ (v : Scope). known v.values k) found_is) ∙ x.1 in
          subst IsKnown (sym there) (sound k x.0 x.1)
