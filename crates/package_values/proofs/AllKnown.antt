-- Where no rule fails in the declarations of constants and variables of a package, all of these are known.
use Rattle.std.proofs.Common.{◌≡◌, ℕ, zero, suc, ◌+◌, ◌^◌, ◌<◌, ◌≤◌, Bool, true, false, cond, List, [], ◌∷◌, ◌++◌, length, map, replicate, ◌⊎◌, inl, inr, Option, Some, None, refl, sym, ap, ◌∙◌, subst, arith, eqb}
use Rattle.std.proofs.lemmas.Bool.{cases_Bool, eqb-true}
use Rattle.std.specs.Prelude.{pos, slice_get, slice_set, nat_lt, option_and_then, is_some, IsNone, ◌&&◌}
use Rattle.std.specs.List.{AllByRecursion}
use Rattle.std.specs.Option.{option_map}
use Rattle.std.proofs.lemmas.List.{length-replicate, length-map}
use Rattle.base.specs.declared.pos.Pos.{Pos}
use Rattle.syntax.specs.declared.expression.Name.{Name}
use Rattle.syntax.specs.FirstBytes.{first_pos}
use Rattle.syntax.specs.Expressions as tree
use Rattle.syntax.specs.Expressions.{Ex as TreeEx, Exs as TreeExs, none, some, spelled}
use Rattle.typed_syntax.specs.Syntax.{Ex}
use Rattle.syntax.specs.Statements.{ValueSpec}
use Rattle.syntax.specs.Declarations.{Declaration, constants, variables, types, function}
use Rattle.constants.specs.declared.constant.Constant.TheVariants.{Number, Truth}
use Rattle.constants.specs.declared.constant.Fixed.{Fixed}
use Rattle.type_faults.specs.declared.fault.Fault.{Fault}
use Rattle.type_faults.specs.declared.fault.FaultKind.TheVariants.{Mismatch, WrongCount, ConstRange, Unfit, SelfReference, OutOfProfile}
use Rattle.base.specs.declared.value_type.ValueType.{ValueType}
use Rattle.typed.specs.Tables.{Table}
use Rattle.typed.specs.Formed.{IsFormed}
use Rattle.base.specs.Types.{same_type}
use Rattle.constants.specs.Constants.{untyped, constant_type, is_held, holds}
use Rattle.type_faults.specs.Given.{allowed, both}
use Rattle.type_faults.specs.Faults.{fault, IsFault}
use Rattle.type_faults.proofs.Decided.{Decided}
use Rattle.type_faults.proofs.Options.{map_some, none_some, same_some}
use Rattle.operators.specs.Operands.{Operand, constant, value, nil, type_of, as_value}
use Rattle.operators.specs.Operators.{has_rules, prefixed, combined}
use Rattle.names.specs.Blocks.{lookup}
use Rattle.names.specs.declared.scope.Declared.{Declared}
use Rattle.names.specs.declared.scope.Declared.TheVariants as declared
use Rattle.names.specs.declared.scope.Known.{Known}
use Rattle.names.specs.declared.scope.Known.TheVariants as known_as
use Rattle.names.specs.Scope.{Scope, Signature, numbered, declaration}
use Rattle.names.proofs.Settled.{IsSound, AreSound, IsKnown, IsTyped, IsSettled, predeclared_is}
use Rattle.given_values.specs.Given.{are_single, Gives, one, name_operand, prefix_gives, wanted_by, accepts_operand, single, operand_in, Seen, Many, many_in, many as many_of, count_of}
use Rattle.expression_types.specs.Typing.{declared_wanted, spec_wanted, gives, stated_type, seen, call_in, early, early_gives}
use Rattle.given_values.specs.GivenFaults.{single_fault, range_fault, RangeFails, CountFails, SinglesFail, ValuesFail as ManyFail}
use Rattle.expression_types.specs.Faults.{Fails, StatedFails, FailsInEach, FailsBefore, early_fault}
use Rattle.given_values.proofs.DecidedValues.{single_decided, as_value_decided, ranges_placed}
use Rattle.expression_types.proofs.Places.{spec_asks}
use Rattle.given_values.proofs.ValuesFit.{typed_value}
use Rattle.expression_types.proofs.Settled.{gives_decided, stated_decided}
use Rattle.package_values.specs.Values.{Item, as_constant, unvalued, paired, or_unvalued, items_of, items_in_specs, items_in, with_type, accepted, given_by, variable_type, given_as, given, settled}
use Rattle.package_values.specs.declared.items.Role.{Role}
use Rattle.package_values.specs.declared.items.Role.TheVariants as role
use Rattle.package_values.specs.Needs.{names_in, names_in_each, names_in_some, names_waited, value_number, also, has_form, have_form, waited_form, numbers_of, needed_for, needed_as, needed, needed_in, Needs, Reaches, at_once, through}
use Rattle.package_values.specs.ValueFaults.{single_count, value_fault, ValuesFail, type_asked, SpecFails, SpecsFail, form_fault, FormsFail, InitialsFail, VariablesFail, AllVariablesFail, cycle_place, DeclarationsFail, ItemsFail, EarlyFail}
use Rattle.components.specs.Graph.{Among}
use Rattle.package_values.specs.Passing.{has_mark, is_marked}
use Rattle.package_values.proofs.Growth.{known, Consistent, IsEnd, rounds, rounds_good, rounds_settle, all_seen, rounds_hold}
use Rattle.package_values.proofs.Holding.{holding}
use Rattle.package_values.proofs.Giving.{give, monotone, given_sound, looks_are}
use Rattle.package_values.proofs.Same.{NameSame, AllSame, all_left, all_right, gives_same, stated_same, fails_back, stated_back}
use Rattle.package_values.proofs.Marks.{unmarked, set_count, set_only, set_length}

element : {A : Type 0} (P : A → Type 0) (xs : List A) (k : ℕ) (x : A) → AllByRecursion P xs → slice_get xs k ≡ Some x → P x
element P [] k x all is = absurd (none_some is)
element P (y ∷ ys) zero x all is = subst P (same_some is) all.0
element P (y ∷ ys) (suc k) x all is = element P ys k x all.1 is

pub there : {A : Type 0} (xs : List A) (k : ℕ) → k < length xs → (x : A) × (slice_get xs k ≡ Some x)
there [] k l = absurd (omega (arith, l))
there (x ∷ xs) zero l = (x, refl)
there (x ∷ xs) (suc k) l = there xs k (omega (arith, l))

all_append : {A : Type 0} (P : A → Type 0) (xs ys : List A) → AllByRecursion P xs → AllByRecursion P ys → AllByRecursion P (xs ++ ys)
all_append P [] ys a b = b
all_append P (x ∷ xs) ys a b = (a.0, all_append P xs ys a.1 b)

pub all_map : {A : Type 0} (P Q : A → Type 0) (xs : List A) → ((x : A) → P x → Q x) → AllByRecursion P xs → AllByRecursion Q xs
all_map P Q [] into all = tt
all_map P Q (x ∷ xs) into all = (into x all.0, all_map P Q xs into all.1)

nothing_known : {A : Type 0} (cs : List (Option A)) → AllByRecursion (λ o. IsNone o) cs → (k : ℕ) (f : A) → known cs k ≡ Some f → ⊥
nothing_known [] all k f h = none_some h
nothing_known (None ∷ cs) all zero f h = none_some h
nothing_known (Some g ∷ cs) all zero f h = let bad : true ≡ false = all.0 in cc
nothing_known (c ∷ cs) all (suc k) f h = nothing_known cs all.1 k f h

-- ---- a value in place of each that isn't known

abbrev filled_one : Option Known → Option Known
filled_one None = Some (known_as.Constant (untyped (Truth true)))
filled_one (Some f) = Some f

abbrev filled : List (Option Known) → List (Option Known)
filled cs = map filled_one cs

filled_known : (cs : List (Option Known)) (k : ℕ) (f : Known) → known cs k ≡ Some f → known cs k ≡ known (filled cs) k
filled_known [] k f h = refl
filled_known (None ∷ cs) zero f h = absurd (none_some h)
filled_known (Some g ∷ cs) zero f h = refl
filled_known (c ∷ cs) (suc k) f h = filled_known cs k f h

filled_value : (cs : List (Option Known)) → AreSound cs → (k : ℕ) → k < length cs → IsKnown (known (filled cs) k)
filled_value [] sound k l = absurd (omega (arith, l))
filled_value (None ∷ cs) sound zero l = refl
filled_value (Some f ∷ cs) sound zero l = sound zero f refl
filled_value (c ∷ cs) sound (suc k) l = filled_value cs (λ j f h. sound (suc j) f h) k (omega (arith, l))

-- what is typed once the constants and variables are known, of which there are n
abbrev pub IsTypedOnceKnown : Table → List (Option Signature) → ℕ → Declared → Type 0
IsTypedOnceKnown T sigs n (declared.Constant k) = k.0 < n
IsTypedOnceKnown T sigs n (declared.Global k g) = k.0 < n
IsTypedOnceKnown T sigs n d = IsTyped T sigs [] d

pub typed_by : (T : Table) (sigs : List (Option Signature)) (cs : List (Option Known)) → ((k : ℕ) → k < length cs → IsKnown (known cs k)) → (n : ℕ) → n ≡ length cs → (d : Declared) → IsTypedOnceKnown T sigs n d → IsTyped T sigs cs d
typed_by T sigs cs has n many (declared.Constant k) h = has k.0 (omega (arith, h, many))
typed_by T sigs cs has n many (declared.Global k g) h = has k.0 (omega (arith, h, many))
typed_by T sigs cs has n many d h = h

-- a declaration has no number among the constants and variables
abbrev HasNoNumber : Declared → Type 0
HasNoNumber d = (j : ℕ) → value_number (Some d) ≡ Some j → ⊥

-- the number of one is below how many there are
number_below : (T : Table) (sigs : List (Option Signature)) (n : ℕ) (d : Declared) → IsTypedOnceKnown T sigs n d → (j : ℕ) → value_number (Some d) ≡ Some j → j < n
number_below T sigs n (declared.Constant k) h j e = subst (λ (m : ℕ). m < n) (same_some e) h
number_below T sigs n (declared.Global k g) h j e = subst (λ (m : ℕ). m < n) (same_some e) h
number_below T sigs n d h j e = absurd (none_some e)

module _ (text : List ℕ) (s : Scope) (n : ℕ) (formed : IsFormed s.types) (typed : AllByRecursion (IsTypedOnceKnown s.types s.signatures n) s.declared) (cs : List (Option Known)) (many : length cs ≡ n) (held : AreSound cs) where
  many_filled : (xs : List (Option Known)) → length (filled xs) ≡ length xs
  many_filled [] = refl
  many_filled (x ∷ xs) = ap suc (many_filled xs)

  settled_filled : IsSettled (holding s (filled cs))
  settled_filled = record {
    all = all_map (IsTypedOnceKnown s.types s.signatures n) (IsTyped s.types s.signatures (filled cs)) s.declared
        (λ d h. typed_by s.types s.signatures (filled cs) (λ k l. filled_value cs held k (omega (arith, l, many_filled cs))) n (omega (arith, many, many_filled cs)) d h) typed;
    formed = formed;
  }

  value_below : (name : List ℕ) (o : Option ℕ) (d : Declared) → numbered s name o ≡ Some d → (j : ℕ) → value_number (Some d) ≡ Some j → j < n
  value_below name None d is j e =
      absurd (predeclared_is HasNoNumber (λ k h. none_some h) (λ k h. none_some h) (λ b k h. none_some h) (λ k h. none_some h) (λ line k h. none_some h) (λ k h. none_some h) (λ m k h. none_some h) (λ k h. none_some h) (λ k h. none_some h) name d is j e)
  value_below name (Some i) d is j e = number_below s.types s.signatures n d (element (IsTypedOnceKnown s.types s.signatures n) s.declared i d typed is) j e

  name_below : (x : Name) (o : Option Declared) → declaration s (spelled text x) ≡ o → (j : ℕ) → value_number o ≡ Some j → j < n
  name_below x None is j e = absurd (none_some e)
  name_below x (Some d) is j e = value_below (spelled text x) (lookup s.blocks (spelled text x)) d is j e

  -- ---- an unknown constant or variable among some names, or none

  abbrev Unknown : List ℕ → Type 0
  Unknown ks = (j : ℕ) × Among j ks × (known cs j ≡ None) × (j < n)

  unknown_at : (k : ℕ) → k < n → (o : Option Known) → known cs k ≡ o → (known cs k ≡ known (filled cs) k) ⊎ ((j : ℕ) × (Some k ≡ Some j) × (known cs j ≡ None) × (j < n))
  unknown_at k l None e = inr (k, refl, e, l)
  unknown_at k l (Some f) e = inl (filled_known cs k f e)

  one_unknown : (d : Option Declared) → ((j : ℕ) → value_number d ≡ Some j → j < n) → NameSame text s cs (filled cs) d ⊎ ((j : ℕ) × (value_number d ≡ Some j) × (known cs j ≡ None) × (j < n))
  one_unknown (Some (declared.Constant k)) below = unknown_at k.0 (below k.0 refl) (known cs k.0) refl
  one_unknown (Some (declared.Global k g)) below = unknown_at k.0 (below k.0 refl) (known cs k.0) refl
  one_unknown d below = inl tt

  also_one : (o : Option ℕ) (j : ℕ) (ks : List ℕ) → o ≡ Some j → Among j (also o ks)
  also_one None j ks e = absurd (none_some e)
  also_one (Some k) j ks e = inl (sym (same_some e))

  also_more : (o : Option ℕ) (j : ℕ) (ks : List ℕ) → Among j ks → Among j (also o ks)
  also_more None j ks a = a
  also_more (Some k) j ks a = inr a

  unknown : (ns : List Name) → AllSame text s cs (filled cs) ns ⊎ Unknown (numbers_of text (holding s cs) ns)
  unknown [] = inl tt
  unknown (x ∷ ns) =
      by (one_unknown (declaration s (spelled text x)) (name_below x (declaration s (spelled text x)) refl)) (unknown ns)
    where
      by : NameSame text s cs (filled cs) (declaration s (spelled text x)) ⊎ ((j : ℕ) × (value_number (declaration s (spelled text x)) ≡ Some j) × (known cs j ≡ None) × (j < n))
          → AllSame text s cs (filled cs) ns ⊎ Unknown (numbers_of text (holding s cs) ns)
          → AllSame text s cs (filled cs) (x ∷ ns) ⊎ Unknown (numbers_of text (holding s cs) (x ∷ ns))
      by (inr u) rest = inr (u.0, also_one (value_number (declaration s (spelled text x))) u.0 (numbers_of text (holding s cs) ns) u.1, u.2, u.3)
      by (inl same) (inl all) = inl (same, all)
      by (inl same) (inr u) = inr (u.0, also_more (value_number (declaration s (spelled text x))) u.0 (numbers_of text (holding s cs) ns) u.1, u.2, u.3)

  -- ---- an expression that names known constants alone

  abbrev Never : (Fault → Type 0) → Type 0
  Never P = (f : Fault) → P f → ⊥

  gives_here : (e : TreeEx) → AllSame text s cs (filled cs) (names_in e) → Never (Fails text (holding s cs) e) → (g : Gives) × (gives text (holding s cs) e ≡ Some g)
  gives_here e all never = by (gives text (holding s (filled cs)) e) refl (gives_decided text (holding s (filled cs)) settled_filled e)
    where
      by : (o : Option Gives) → gives text (holding s (filled cs)) e ≡ o → Decided o (Fails text (holding s (filled cs)) e) → (g : Gives) × (gives text (holding s cs) e ≡ Some g)
      by None is d = absurd (never d.0 (fails_back text s cs (filled cs) e d.0 all d.1))
      by (Some g) is d = (g, gives_same text s cs (filled cs) e all ∙ is)

  operand_here : (e : TreeEx) → AllSame text s cs (filled cs) (names_in e) → Never (Fails text (holding s cs) e) → Never (IsFault (single_fault (gives text (holding s cs) e)))
      → (x : Operand) × (operand_in (gives text (holding s cs) e) ≡ Some x)
  operand_here e all never single_never = let g = gives_here e all never in by g.0 g.1 (single g.0) refl (single_decided g.0)
    where
      by : (g : Gives) → gives text (holding s cs) e ≡ Some g → (o : Option Operand) → single g ≡ o → Decided o (IsFault (single_fault (Some g))) → (x : Operand) × (operand_in (gives text (holding s cs) e) ≡ Some x)
      by g is None e1 d = absurd (single_never d.0 (subst (λ (o : Option Gives). IsFault (single_fault o) d.0) (sym is) d.1))
      by g is (Some x) e1 d = (x, ap operand_in is ∙ e1)

  type_here : (e : TreeEx) → AllSame text s cs (filled cs) (names_in e) → Never (StatedFails text (holding s cs) e) → (t : ValueType) × (stated_type text (holding s cs) e ≡ Some t)
  type_here e all never = by (stated_type text (holding s (filled cs)) e) refl (stated_decided text (holding s (filled cs)) settled_filled e)
    where
      by : (o : Option ValueType) → stated_type text (holding s (filled cs)) e ≡ o → Decided o (StatedFails text (holding s (filled cs)) e) → (t : ValueType) × (stated_type text (holding s cs) e ≡ Some t)
      by None is d = absurd (never d.0 (stated_back text s cs (filled cs) e d.0 all d.1))
      by (Some t) is d = (t, stated_same text s cs (filled cs) e all ∙ is)

  no_value : (a : Bool) (at : Pos) → Never (IsFault (cond a (Some (fault Unfit at)) (Some (fault Mismatch at)))) → ⊥
  no_value true at never = never _ refl
  no_value false at never = never _ refl

  fitting : (a h : Bool) (at : Pos) → Never (IsFault (cond a (cond h None (Some (fault ConstRange at))) (Some (fault Mismatch at)))) → (a ≡ true) × (h ≡ true)
  fitting true true at never = (refl, refl)
  fitting true false at never = absurd (never _ refl)
  fitting false h at never = absurd (never _ refl)

  typed_given : (t : ValueType) (c : Fixed) → same_type t (constant_type c.value_type c.value) ≡ true → holds t c.value ≡ true → (f : Fixed) × (with_type t c ≡ Some f)
  typed_given t c same holds1 = (_, ap (λ (b : Bool). allowed (b && holds t c.value) (Some (record { value_type = Some t; value = c.value }))) same ∙ ap (λ (b : Bool). allowed (true && b) (Some (record { value_type = Some t; value = c.value }))) holds1)

  accepted_here : (t : Option TreeEx) (c : Fixed) → AllSame text s cs (filled cs) (names_in_some t) → Never (FailsBefore text (holding s cs) t) → accepts_operand (wanted_by (type_asked text (holding s cs) t)) (constant c) ≡ true → is_held (type_asked text (holding s cs) t) c.value ≡ true
      → (f : Fixed) × (accepted text (holding s cs) t c ≡ Some f)
  accepted_here None c all never a h = (c, refl)
  accepted_here (Some e) c all never a h = let t = type_here e all never in by t.0 t.1
    where
      by : (t : ValueType) → stated_type text (holding s cs) e ≡ Some t → (f : Fixed) × (accepted text (holding s cs) (Some e) c ≡ Some f)
      by t is =
          let same = subst (λ (o : Option ValueType). accepts_operand (wanted_by o) (constant c) ≡ true) is a in
          let held1 = subst (λ (o : Option ValueType). is_held o c.value ≡ true) is h in
          let f = typed_given t c same held1 in (f.0, ap (option_and_then (λ u. with_type u c)) is ∙ f.1)

  -- a constant without a call is there early
  in_time : (found : Option Pos) (c : Fixed) → Never (IsFault (early_fault found (Some (constant c)))) → early found (constant c) ≡ Some (constant c)
  in_time None c never = refl
  in_time (Some at) c never = absurd (never (fault OutOfProfile at) refl)

  value_given : (t : Option TreeEx) (e : TreeEx) (at : Pos) → AllSame text s cs (filled cs) (names_in_some t) → AllSame text s cs (filled cs) (names_in e) → Never (FailsBefore text (holding s cs) t) → Never (Fails text (holding s cs) e)
      → Never (IsFault (single_fault (gives text (holding s cs) e))) → Never (IsFault (value_fault (type_asked text (holding s cs) t) at (operand_in (gives text (holding s cs) e))))
      → Never (IsFault (early_fault (call_in e) (operand_in (gives text (holding s cs) e)))) → (f : Fixed) × (given_by text (holding s cs) t (Some e) ≡ Some f)
  value_given t e at type_all all type_never never single_never value_never early_never =
      let x = operand_here e all never single_never in
      by x.0 x.1 (λ f h. value_never f (subst (λ (o : Option Operand). IsFault (value_fault (type_asked text (holding s cs) t) at o) f) (sym x.1) h))
      (λ f h. early_never f (subst (λ (o : Option Operand). IsFault (early_fault (call_in e) o) f) (sym x.1) h))
    where
      by : (x : Operand) → operand_in (gives text (holding s cs) e) ≡ Some x → Never (IsFault (value_fault (type_asked text (holding s cs) t) at (Some x))) → Never (IsFault (early_fault (call_in e) (Some x)))
          → (f : Fixed) × (given_by text (holding s cs) t (Some e) ≡ Some f)
      by (value u y) is free late1 = absurd (no_value (accepts_operand (wanted_by (type_asked text (holding s cs) t)) (value u y)) at free)
      by nil is free late1 = absurd (no_value (accepts_operand (wanted_by (type_asked text (holding s cs) t)) nil) at free)
      by (constant c) is free late1 =
          let fits = fitting (accepts_operand (wanted_by (type_asked text (holding s cs) t)) (constant c)) (is_held (type_asked text (holding s cs) t) c.value) at free in
          let f = accepted_here t c type_all type_never fits.0 fits.1 in (
            f.0,
            ap (λ (o : Option Operand). option_and_then (accepted text (holding s cs) t) (option_and_then as_constant (option_and_then (early (call_in e)) o))) is
                ∙ ap (λ (o : Option Operand). option_and_then (accepted text (holding s cs) t) (option_and_then as_constant o)) (in_time (call_in e) c late1) ∙ f.1,
          )

  -- ---- the rules that hold for one constant

  -- of its own value, or of another number of values
  abbrev Holds : Option TreeEx → Option TreeEx → TreeExs → Type 0
  Holds t None es = AllSame text s cs (filled cs) (names_in_each es) → ⊥
  Holds t (Some e) es =
      (at : Pos) × Never (Fails text (holding s cs) e) × Never (IsFault (single_fault (gives text (holding s cs) e)))
      × Never (IsFault (value_fault (type_asked text (holding s cs) t) at (operand_in (gives text (holding s cs) e))))
      × Never (IsFault (early_fault (call_in e) (operand_in (gives text (holding s cs) e))))

  -- of the value of a variable without a type
  abbrev HoldsInitial : Option TreeEx → Option TreeEx → TreeExs → Type 0
  HoldsInitial (Some t) v es = Unit {0}
  HoldsInitial None None es = (have_form text (holding s cs) es ≡ true) × (AllSame text s cs (filled cs) (names_in_each es) → ⊥)
  HoldsInitial None (Some e) es =
      (has_form text (holding s cs) e ≡ true) × Never (Fails text (holding s cs) e) × Never (IsFault (single_fault (gives text (holding s cs) e)))
      × Never (IsFault (range_fault (first_pos e) (operand_in (gives text (holding s cs) e))))

  abbrev HoldsAs : Role → Option TreeEx → Option TreeEx → TreeExs → Type 0
  HoldsAs role.Constant t v es = Holds t v es
  HoldsAs role.Variable t v es = HoldsInitial t v es

  record Sound (i : Item) : Type 0 where
    pub type_holds : Never (FailsBefore text (holding s cs) i.type_expr)
    pub value_holds : HoldsAs i.role i.type_expr i.value i.values

  unvalued_sound : (r : Role) (names : List Name) (t : Option TreeEx) (es : TreeExs) (k : ℕ) (ns : List Name) → Never (FailsBefore text (holding s cs) t) → HoldsAs r t None es → AllByRecursion Sound (unvalued r names t es k ns)
  unvalued_sound r names t es k [] never holds1 = tt
  unvalued_sound r names t es k (x ∷ ns) never holds1 = (record { type_holds = never; value_holds = holds1 }, unvalued_sound r names t es (1 + k) ns never holds1)

  -- each value is one by itself
  abbrev EachHolds : Role → Option TreeEx → TreeExs → TreeExs → Type 0
  EachHolds r t all none = Unit {0}
  EachHolds r t all (some e es) = HoldsAs r t (Some e) all × EachHolds r t all es

  paired_sound : (r : Role) (names : List Name) (t : Option TreeEx) (all : TreeExs) (k : ℕ) (ns : List Name) (es : TreeExs) (is : List Item) → paired r names t all k ns es ≡ Some is → Never (FailsBefore text (holding s cs) t) → EachHolds r t all es
      → AllByRecursion Sound is
  paired_sound r names t all k [] none is e type_never each = subst (AllByRecursion Sound) (same_some e) tt
  paired_sound r names t all k [] (some x es) is e type_never each = absurd (none_some e)
  paired_sound r names t all k (x ∷ ns) none is e type_never each = absurd (none_some e)
  paired_sound r names t all k (x ∷ ns) (some v es) is e type_never each =
      let p = map_some (λ l. record { role = r; name = x; names = names; place = k; type_expr = t; value = Some v; values = all } ∷ l) (paired r names t all (1 + k) ns es) is e in
      subst (AllByRecursion Sound) p.2 (record { type_holds = type_never; value_holds = each.0 }, paired_sound r names t all (1 + k) ns es p.0 p.1 type_never each.1)

  constants_hold : (t : Option TreeEx) (all es : TreeExs) → Never (FailsInEach text (holding s cs) es) → Never (SinglesFail (seen text (holding s cs) es))
      → Never (ValuesFail (type_asked text (holding s cs) t) (seen text (holding s cs) es)) → Never (EarlyFail es (seen text (holding s cs) es)) → EachHolds role.Constant t all es
  constants_hold t all none each singles values lates = tt
  constants_hold t all (some v es) each singles values lates = (
    (first_pos v, λ f h. each f (inl h), λ f h. singles f (inl h), λ f h. values f (inl h), λ f h. lates f (inl h)),
    constants_hold t all es (λ f h. each f (inr h)) (λ f h. singles f (inr h)) (λ f h. values f (inr h)) (λ f h. lates f (inr h)),
  )

  -- where each value is known there are as many as names

  all_single : (es : TreeExs) → AllSame text s cs (filled cs) (names_in_each es) → Never (FailsInEach text (holding s cs) es) → Never (SinglesFail (seen text (holding s cs) es)) → are_single (seen text (holding s cs) es) ≡ true
  all_single none all each singles = refl
  all_single (some e es) all each singles =
      let x = operand_here e (all_left text s cs (filled cs) (names_in e) (names_in_each es) all) (λ f h. each f (inl h)) (λ f h. singles f (inl h)) in
      ap (λ (o : Option Operand). is_some o && are_single (seen text (holding s cs) es)) x.1
      ∙ all_single es (all_right text s cs (filled cs) (names_in e) (names_in_each es) all) (λ f h. each f (inr h)) (λ f h. singles f (inr h))

  no_map : {A B : Type 0} (h : A → B) (o : Option A) → option_map h o ≡ None → o ≡ None
  no_map h None e = refl
  no_map h (Some x) e = absurd (none_some (sym e))

  not_paired : (r : Role) (names : List Name) (t : Option TreeEx) (all : TreeExs) (k : ℕ) (ns : List Name) (es : TreeExs) → paired r names t all k ns es ≡ None → length (seen text (holding s cs) es) ≡ length ns → ⊥
  not_paired r names t all k [] none e l = none_some (sym e)
  not_paired r names t all k [] (some x es) e l = omega (arith, l)
  not_paired r names t all k (x ∷ ns) none e l = omega (arith, l)
  not_paired r names t all k (x ∷ ns) (some v es) e l =
      not_paired r names t all (1 + k) ns es (no_map (λ is. record { role = r; name = x; names = names; place = k; type_expr = t; value = Some v; values = all } ∷ is) (paired r names t all (1 + k) ns es) e) (omega (arith, l))

  paired_long : (r : Role) (names : List Name) (t : Option TreeEx) (all : TreeExs) (k : ℕ) (ns : List Name) (es : TreeExs) (is : List Item) → paired r names t all k ns es ≡ Some is → length (seen text (holding s cs) es) ≡ length ns
  paired_long r names t all k [] none is e = refl
  paired_long r names t all k [] (some x es) is e = absurd (none_some e)
  paired_long r names t all k (x ∷ ns) none is e = absurd (none_some e)
  paired_long r names t all k (x ∷ ns) (some v es) is e =
      let p = map_some (λ l. record { role = r; name = x; names = names; place = k; type_expr = t; value = Some v; values = all } ∷ l) (paired r names t all (1 + k) ns es) is e in
      ap suc (paired_long r names t all (1 + k) ns es p.0 p.1)

  counted : (m k : ℕ) (own : Fault) → Never (CountFails (Some m) k own) → m ≡ k
  counted m k own never = by (cases_Bool (eqb m k))
    where
      by : (eqb m k ≡ true) ⊎ (eqb m k ≡ false) → m ≡ k
      by (inl e) = eqb-true m k e
      by (inr e) = absurd (never own (subst (λ (b : Bool). IsFault (cond b None (Some own)) own) (sym e) refl))

  waits_for_one : (r : Role) (t : Option TreeEx) (ns : List Name) (es : TreeExs) (own : Fault) → paired r ns t es 0 ns es ≡ None → Never (FailsInEach text (holding s cs) es) → Never (SinglesFail (seen text (holding s cs) es))
      → Never (CountFails (single_count (seen text (holding s cs) es)) (length ns) own) → AllSame text s cs (filled cs) (names_in_each es) → ⊥
  waits_for_one r t ns es own e each singles count all =
      let os = seen text (holding s cs) es in
      let all_are = all_single es all each singles in
      not_paired r ns t es 0 ns es e
      (counted (length os) (length ns) own (λ f h. count f (subst (λ (b : Bool). CountFails (cond b (Some (length os)) None) (length ns) own f) (sym all_are) h)))

  spec_sound : (at : Pos) (v : ValueSpec) → Never (SpecFails text (holding s cs) at v) → AllByRecursion Sound (items_of role.Constant v)
  spec_sound at v never = by (paired role.Constant v.names v.type_expr v.values 0 v.names v.values) refl
    where
      by : (o : Option (List Item)) → paired role.Constant v.names v.type_expr v.values 0 v.names v.values ≡ o → AllByRecursion Sound (or_unvalued o (unvalued role.Constant v.names v.type_expr v.values 0 v.names))
      by None e =
          unvalued_sound role.Constant v.names v.type_expr v.values 0 v.names (λ f h. never f (inl (inl h)))
          (waits_for_one role.Constant v.type_expr v.names v.values (fault WrongCount at) e (λ f h. never f (inl (inr (inl h)))) (λ f h. never f (inl (inr (inr h)))) (λ f h. never f (inr (inr (inl h)))))
      by (Some is) e =
          paired_sound role.Constant v.names v.type_expr v.values 0 v.names v.values is e (λ f h. never f (inl (inl h)))
          (constants_hold v.type_expr v.values v.values (λ f h. never f (inl (inr (inl h)))) (λ f h. never f (inl (inr (inr h)))) (λ f h. never f (inr (inl h))) (λ f h. never f (inr (inr (inr h)))))

  -- ---- variables

  both_form : (a b : Bool) → (a && b) ≡ true → (a ≡ true) × (b ≡ true)
  both_form true b is = (refl, is)
  both_form false b is = cc is

  -- what has the form of a constant is no call
  many_one : (o : Option Operand) → many_in (option_map one o) ≡ None
  many_one None = refl
  many_one (Some x) = refl

  form_no_call : (e : TreeEx) → has_form text (holding s cs) e ≡ true → many_in (gives text (holding s cs) e) ≡ None
  form_no_call (tree.number at m) is = by (nat_lt m (2 ^ 127))
    where
      by : (b : Bool) → many_in (cond b (Some (one (constant (untyped (Number (pos m)))))) None) ≡ None
      by true = refl
      by false = refl
  form_no_call (tree.name x) is = many_one (name_operand (holding s cs) (declaration s (spelled text x)))
  form_no_call (tree.unary at op e) is = by (has_rules op)
    where
      by : (b : Bool) → many_in (prefix_gives op b (operand_in (gives text (holding s cs) e))) ≡ None
      by true = many_one (option_and_then (prefixed op) (operand_in (gives text (holding s cs) e)))
      by false = refl
  form_no_call (tree.binary at op a b) is = many_one (both (combined at op) (operand_in (gives text (holding s cs) a)) (operand_in (gives text (holding s cs) b)))
  form_no_call (tree.paren at e) is = form_no_call e is
  form_no_call e is = cc is

  forms_no_call : (es : TreeExs) → have_form text (holding s cs) es ≡ true → many_of (seen text (holding s cs) es) ≡ None
  forms_no_call none is = refl
  forms_no_call (some e none) is = form_no_call e (both_form (has_form text (holding s cs) e) true is).0
  forms_no_call (some e (some x es)) is = refl

  form_holds : (b : Bool) (at : Pos) → Never (IsFault (form_fault b at)) → b ≡ true
  form_holds true at never = refl
  form_holds false at never = absurd (never (fault OutOfProfile at) refl)

  forms_hold : (es : TreeExs) → Never (FormsFail text (holding s cs) es) → have_form text (holding s cs) es ≡ true
  forms_hold none never = refl
  forms_hold (some e es) never =
      ap (λ (b : Bool). b && have_form text (holding s cs) es) (form_holds (has_form text (holding s cs) e) (first_pos e) (λ f h. never f (inl h))) ∙ forms_hold es (λ f h. never f (inr h))

  variables_hold : (all es : TreeExs) → have_form text (holding s cs) es ≡ true → Never (FailsInEach text (holding s cs) es)
      → Never (SinglesFail (seen text (holding s cs) es)) → Never (RangeFails (seen text (holding s cs) es))
      → EachHolds role.Variable None all es
  variables_hold all none forms each singles ranges = tt
  variables_hold all (some e es) forms each singles ranges =
      let form = both_form (has_form text (holding s cs) e) (have_form text (holding s cs) es) forms in (
        (form.0, λ f h. each f (inl h), λ f h. singles f (inl h), λ f h. ranges f (inl h)),
        variables_hold all es form.1 (λ f h. each f (inr h)) (λ f h. singles f (inr h)) (λ f h. ranges f (inr h)),
      )

  typed_hold : (t : TreeEx) (all es : TreeExs) → EachHolds role.Variable (Some t) all es
  typed_hold t all none = tt
  typed_hold t all (some e es) = (tt, typed_hold t all es)

  -- of a declaration with a type, and of one without
  typed_sound : (t : TreeEx) (ns : List Name) (es : TreeExs) → Never (StatedFails text (holding s cs) t)
      → AllByRecursion Sound (items_of role.Variable (record { names = ns; type_expr = Some t; values = es }))
  typed_sound t ns es never = by (paired role.Variable ns (Some t) es 0 ns es) refl
    where
      by : (o : Option (List Item)) → paired role.Variable ns (Some t) es 0 ns es ≡ o → AllByRecursion Sound (or_unvalued o (unvalued role.Variable ns (Some t) es 0 ns))
      by None e = unvalued_sound role.Variable ns (Some t) es 0 ns never tt
      by (Some is) e = paired_sound role.Variable ns (Some t) es 0 ns es is e never (typed_hold t es es)

  untyped_sound : (at : Pos) (ns : List Name) (es : TreeExs) → Never (FailsInEach text (holding s cs) es) → Never (InitialsFail text (holding s cs) false at (record { names = ns; type_expr = None; values = es }))
      → AllByRecursion Sound (items_of role.Variable (record { names = ns; type_expr = None; values = es }))
  untyped_sound at ns es each never = by (paired role.Variable ns None es 0 ns es) refl
    where
      os : List Seen
      os = seen text (holding s cs) es

      forms : have_form text (holding s cs) es ≡ true
      forms = forms_hold es (λ f h. never f (inr h))

      alone : many_of os ≡ None
      alone = forms_no_call es forms

      singles : Never (SinglesFail os)
      singles f h = never f (inl (inl (inl (inl (subst (λ (o : Option Many). ManyFail o os f) (sym alone) h)))))

      places : length (spec_wanted text (holding s cs) (record { names = ns; type_expr = None; values = es })) ≡ length ns
      places = length-map ns (λ (n : Name). declared_wanted text (holding s cs) None)

      -- each value has its place
      ranges : (is : List Item) → paired role.Variable ns None es 0 ns es ≡ Some is → Never (RangeFails os)
      ranges is e f h =
          let long : length os ≡ length ns = paired_long role.Variable ns None es 0 ns es is e in
          let asks = spec_asks text (holding s cs) None ns (λ e1 e1_is. absurd (none_some e1_is)) in
          never f (inl (inl (inl (inr (ranges_placed (spec_wanted text (holding s cs) (record { names = ns; type_expr = None; values = es })) os asks (long ∙ sym places) f h)))))

      count_never : Never (CountFails (single_count os) (length ns) (fault WrongCount at))
      count_never f h =
          never f (inl (inr (subst (λ (o : Option Many). CountFails (count_of os o) (length (spec_wanted text (holding s cs) (record { names = ns; type_expr = None; values = es }))) (fault WrongCount at) f) (sym alone)
          (subst (λ (m : ℕ). CountFails (single_count os) m (fault WrongCount at) f) (sym places) h))))

      by : (o : Option (List Item)) → paired role.Variable ns None es 0 ns es ≡ o → AllByRecursion Sound (or_unvalued o (unvalued role.Variable ns None es 0 ns))
      by None e = unvalued_sound role.Variable ns None es 0 ns (λ f h. h) (forms, waits_for_one role.Variable None ns es (fault WrongCount at) e each singles count_never)
      by (Some is) e =
          paired_sound role.Variable ns None es 0 ns es is e (λ f h. h) (variables_hold es es forms each singles (ranges is e))

  variables_sound : (at : Pos) (t : Option TreeEx) (ns : List Name) (es : TreeExs) → Never (VariablesFail text (holding s cs) at (record { names = ns; type_expr = t; values = es }))
      → AllByRecursion Sound (items_of role.Variable (record { names = ns; type_expr = t; values = es }))
  variables_sound at (Some t) ns es never = typed_sound t ns es (λ f h. never f (inl (inl h)))
  variables_sound at None ns es never = untyped_sound at ns es (λ f h. never f (inl (inr h))) (λ f h. never f (inr h))

  all_variables_sound : (at : Pos) (vs : List ValueSpec) → Never (AllVariablesFail text (holding s cs) at vs) → AllByRecursion Sound (items_in_specs role.Variable vs)
  all_variables_sound at [] never = tt
  all_variables_sound at (v ∷ vs) never =
      all_append Sound (items_of role.Variable v) (items_in_specs role.Variable vs) (variables_sound at v.type_expr v.names v.values (λ f h. never f (inl h))) (all_variables_sound at vs (λ f h. never f (inr h)))

  -- ---- all declarations

  specs_sound : (at : Pos) (vs : List ValueSpec) → Never (SpecsFail text (holding s cs) at vs) → AllByRecursion Sound (items_in_specs role.Constant vs)
  specs_sound at [] never = tt
  specs_sound at (v ∷ vs) never = all_append Sound (items_of role.Constant v) (items_in_specs role.Constant vs) (spec_sound at v (λ f h. never f (inl h))) (specs_sound at vs (λ f h. never f (inr h)))

  all_sound : (ds : List Declaration) → Never (DeclarationsFail text (holding s cs) ds) → AllByRecursion Sound (items_in ds)
  all_sound [] never = tt
  all_sound (constants at specs ∷ ds) never = all_append Sound (items_in_specs role.Constant specs) (items_in ds) (specs_sound at specs (λ f h. never f (inl h))) (all_sound ds (λ f h. never f (inr h)))
  all_sound (variables at specs ∷ ds) never = all_append Sound (items_in_specs role.Variable specs) (items_in ds) (all_variables_sound at specs (λ f h. never f (inl h))) (all_sound ds (λ f h. never f (inr h)))
  all_sound (types at specs ∷ ds) never = all_sound ds never
  all_sound (function g ∷ ds) never = all_sound ds never

  -- ---- one that isn't known needs one that isn't

  known_needs : (t v : Option TreeEx) (es : TreeExs) → Never (FailsBefore text (holding s cs) t) → Holds t v es → given_by text (holding s cs) t v ≡ None → AllSame text s cs (filled cs) (names_in_some t ++ names_waited v es) → ⊥
  known_needs t None es type_never holds1 is all = holds1 (all_right text s cs (filled cs) (names_in_some t) (names_in_each es) all)
  known_needs t (Some e) es type_never holds1 is all =
      let f = value_given t e holds1.0 (all_left text s cs (filled cs) (names_in_some t) (names_in e) all) (all_right text s cs (filled cs) (names_in_some t) (names_in e) all) type_never holds1.1 holds1.2 holds1.3 holds1.4 in none_some (sym is ∙ f.1)

  abbrev VariableUnknown : Option TreeEx → Option TreeEx → TreeExs → Type 0
  VariableUnknown (Some t) v es = Unknown (numbers_of text (holding s cs) (names_in t))
  VariableUnknown None v es = Unknown (cond (waited_form text (holding s cs) v es) (numbers_of text (holding s cs) (names_waited v es)) [])

  with_form : (v : Option TreeEx) (es : TreeExs) → waited_form text (holding s cs) v es ≡ true → Unknown (numbers_of text (holding s cs) (names_waited v es)) → VariableUnknown None v es
  with_form v es form u = subst (λ (b : Bool). Unknown (cond b (numbers_of text (holding s cs) (names_waited v es)) [])) (sym form) u

  -- an operand that is a value by itself has a type
  own_there : (x : Operand) (at : Pos) → Never (IsFault (range_fault at (Some x)))
      → (t : ValueType) × (option_and_then (λ e. type_of x) (as_value x) ≡ Some t)
  own_there x at never = by (as_value x) refl (as_value_decided at x)
    where
      by : (o : Option Ex) → as_value x ≡ o → Decided o (IsFault (range_fault at (Some x)))
          → (t : ValueType) × (option_and_then (λ e. type_of x) (as_value x) ≡ Some t)
      by None is d = absurd (never d.0 d.1)
      by (Some v) is d = let t = typed_value x v is in (t.0, ap (option_and_then (λ e. type_of x)) is ∙ t.1)

  variable_needs : (t v : Option TreeEx) (es : TreeExs) (m k : ℕ) → Never (FailsBefore text (holding s cs) t)
      → HoldsInitial t v es → variable_type text (holding s cs) t v es m k ≡ None → VariableUnknown t v es
  variable_needs (Some e) v es m k type_never holds1 is = by (unknown (names_in e))
    where
      by : AllSame text s cs (filled cs) (names_in e) ⊎ Unknown (numbers_of text (holding s cs) (names_in e)) → VariableUnknown (Some e) v es
      by (inl all) = let t = type_here e all type_never in absurd (none_some (sym is ∙ t.1))
      by (inr u) = u
  variable_needs None None es m k type_never holds1 is = by (unknown (names_in_each es))
    where
      by : AllSame text s cs (filled cs) (names_in_each es) ⊎ Unknown (numbers_of text (holding s cs) (names_in_each es)) → VariableUnknown None None es
      by (inl all) = absurd (holds1.1 all)
      by (inr u) = with_form None es holds1.0 u
  variable_needs None (Some e) es m k type_never holds1 is = by (unknown (names_in e))
    where
      by : AllSame text s cs (filled cs) (names_in e) ⊎ Unknown (numbers_of text (holding s cs) (names_in e)) → VariableUnknown None (Some e) es
      by (inl all) =
          let x = operand_here e all holds1.1 holds1.2 in
          let t = own_there x.0 (first_pos e) (λ f h. holds1.3 f (subst (λ (o : Option Operand). IsFault (range_fault (first_pos e) o) f) (sym x.1) h)) in
          absurd (none_some (sym is ∙ ap (option_and_then (λ y. option_and_then (λ v. type_of y) (as_value y))) x.1 ∙ t.1))
      by (inr u) = with_form (Some e) es holds1.0 u

  constant_needs : (i : Item) → Never (FailsBefore text (holding s cs) i.type_expr) → Holds i.type_expr i.value i.values → given_by text (holding s cs) i.type_expr i.value ≡ None → Unknown (needed_as text (holding s cs) role.Constant i)
  constant_needs i type_never holds1 is = by (unknown (names_in_some i.type_expr ++ names_waited i.value i.values))
    where
      by : AllSame text s cs (filled cs) (names_in_some i.type_expr ++ names_waited i.value i.values) ⊎ Unknown (needed_as text (holding s cs) role.Constant i) → Unknown (needed_as text (holding s cs) role.Constant i)
      by (inl all) = absurd (known_needs i.type_expr i.value i.values type_never holds1 is all)
      by (inr u) = u

  needs_as : (r : Role) (i : Item) → Never (FailsBefore text (holding s cs) i.type_expr) → HoldsAs r i.type_expr i.value i.values → given_as text r (holding s cs) i ≡ None → Unknown (needed_as text (holding s cs) r i)
  needs_as role.Constant i type_never holds1 is = constant_needs i type_never holds1 (no_map known_as.Constant (given_by text (holding s cs) i.type_expr i.value) is)
  needs_as role.Variable i type_never holds1 is =
      by i.type_expr (variable_needs i.type_expr i.value i.values (length i.names) i.place type_never holds1 unknown_type)
    where
      found : Option ValueType
      found = variable_type text (holding s cs) i.type_expr i.value i.values (length i.names) i.place

      unknown_type : found ≡ None
      unknown_type = no_map known_as.Variable found is

      by : (t : Option TreeEx) → VariableUnknown t i.value i.values → Unknown (needed_for text (holding s cs) t i)
      by None u = u
      by (Some t) u = u

  item_needs : (i : Item) → Sound i → given text (holding s cs) i ≡ None → Unknown (needed text (holding s cs) i)
  item_needs i sound is = needs_as i.role i sound.type_holds sound.value_holds is

  -- ---- so one of them needs itself

  further : (items : List Item) (i j k : ℕ) → Reaches text (holding s cs) items i j → Needs text (holding s cs) items j k → Reaches text (holding s cs) items i k
  further items i j k (at_once h) a = through h (at_once a)
  further items i j k (through {j = m} h way) a = through h (further items m j k way a)

  below : {A : Type 0} (xs : List A) (k : ℕ) (x : A) → slice_get xs k ≡ Some x → k < length xs
  below [] k x e = absurd (none_some e)
  below (y ∷ ys) zero x e = omega arith
  below (y ∷ ys) (suc k) x e = let l = below ys k x e in omega (arith, l)

  -- at a number that has a mark or not
  turn : (marks : List Bool) (j : ℕ) → j < length marks → (is_marked marks j ≡ true → ⊥) → (slice_get marks j ≡ Some false → ⊥) → ⊥
  turn marks j l marked free = let b = there marks j l in by b.0 b.1
    where
      by : (b : Bool) → slice_get marks j ≡ Some b → ⊥
      by true e = marked (ap has_mark e)
      by false e = free e

  module _ (items : List Item) (as_many : length items ≡ n) where
    module _ (next : (k : ℕ) (i : Item) → slice_get items k ≡ Some i → known cs k ≡ None → Unknown (needed text (holding s cs) i)) where
      module _ (never : (k : ℕ) → k < n → Reaches text (holding s cs) items k k → ⊥) where
        -- the next one, with a mark at the one before
        come_on : (marks : List Bool) (k j : ℕ) → Needs text (holding s cs) items k j → ((m : ℕ) → is_marked marks m ≡ true → Reaches text (holding s cs) items m k)
            → (m : ℕ) → is_marked (slice_set marks k true) m ≡ true → Reaches text (holding s cs) items m j
        come_on marks k j need come m h =
            elim (set_only marks k m h) [
              | inl e ↦ at_once (subst (λ (x : ℕ). Needs text (holding s cs) items x j) (sym e) need)
              | inr before ↦ further items m k j (come m before) need
            ]

        -- a walk over unknown ones, with a mark at each that it came from
        walk : (fuel : ℕ) (marks : List Bool) (k : ℕ) → unmarked marks ≤ fuel → slice_get marks k ≡ Some false → length marks ≡ n → known cs k ≡ None
            → ((j : ℕ) → is_marked marks j ≡ true → Reaches text (holding s cs) items j k) → ⊥
        walk zero marks k le at long is come = let fewer = set_count marks k at in omega (arith, fewer, le)
        walk (suc fuel) marks k le at long is come =
            let i = there items k (omega (arith, below marks k false at, long, as_many)) in
            let u = next k i.0 i.1 is in
            let need : Needs text (holding s cs) items k u.0 = subst (λ (o : Option Item). Among u.0 (needed_in text (holding s cs) o)) (sym i.1) u.1 in
            let more = come_on marks k u.0 need come in
            let long1 = set_length marks k in
            let fewer = set_count marks k at in
            turn (slice_set marks k true) u.0 (omega (arith, long1, long, u.3)) (λ h. never u.0 u.3 (more u.0 h))
            (λ e. walk fuel (slice_set marks k true) u.0 (omega (arith, fewer, le)) e (long1 ∙ long) u.2 more)

        free : (m k : ℕ) → k < m → slice_get (replicate m false) k ≡ Some false
        free zero k l = absurd (omega (arith, l))
        free (suc m) zero l = refl
        free (suc m) (suc k) l = free m k (omega (arith, l))

        none_marked : (m k : ℕ) → is_marked (replicate m false) k ≡ true → ⊥
        none_marked zero k h = let bad : false ≡ true = h in cc
        none_marked (suc m) zero h = let bad : false ≡ true = h in cc
        none_marked (suc m) (suc k) h = none_marked m k h

        all_unmarked : (m : ℕ) → unmarked (replicate m false) ≡ m
        all_unmarked zero = refl
        all_unmarked (suc m) = ap suc (all_unmarked m)

        known_or_not : (k : ℕ) → k < n → (f : Known) × (known cs k ≡ Some f)
        known_or_not k l = by (known cs k) refl
          where
            by : (o : Option Known) → known cs k ≡ o → (f : Known) × (known cs k ≡ Some f)
            by None e = absurd (walk n (replicate n false) k (omega (arith, all_unmarked n)) (free n k l) (length-replicate n false) e (λ j h. absurd (none_marked n j h)))
            by (Some f) e = (f, e)

-- a scope before its constants and variables are settled, and that no rule fails in their declarations after it
pub record NothingFails (text : List ℕ) (s : Scope) (ds : List Declaration) : Type 0 where
  pub as_many : length s.values ≡ length (items_in ds)
  pub unknown : AllByRecursion (λ o. IsNone o) s.values
  pub typed : AllByRecursion (IsTypedOnceKnown s.types s.signatures (length s.values)) s.declared
  pub formed : IsFormed s.types
  pub never : (f : Fault) → ItemsFail text (settled text s (items_in ds)) ds f → ⊥

module _ (text : List ℕ) (s : Scope) (ds : List Declaration) where
  abbrev pub behind : List (Option Known)
  behind = rounds (give text s) (monotone text s) (length (items_in ds)) s.values (items_in ds)

  abbrev HasValueAt : List (Option Known) → ℕ → Type 0
  HasValueAt cs k = (f : Known) × (known cs k ≡ Some f)

  module _ (h : NothingFails text s ds) where
    pub settled_is : settled text s (items_in ds) ≡ holding s behind
    settled_is = looks_are text s (length (items_in ds)) s.values (items_in ds)

    nothing : (k : ℕ) (f : Known) → known s.values k ≡ Some f → ⊥
    nothing = nothing_known s.values h.unknown

    consistent : Consistent (give text s) (monotone text s) (items_in ds) s.values
    consistent k i f at e = absurd (nothing k f e)

    end : IsEnd (give text s) (monotone text s) (items_in ds) behind
    end = rounds_settle (give text s) (monotone text s) (items_in ds) s.values consistent h.as_many

    held : AreSound behind
    held =
        rounds_hold (give text s) (monotone text s) (items_in ds) IsSound (given_sound text s) (length (items_in ds)) s.values
        (λ k f e. absurd (nothing k f e))

    pub never_here : (f : Fault) → ItemsFail text (holding s behind) ds f → ⊥
    never_here f x = h.never f (subst (λ (r : Scope). ItemsFail text r ds f) (sym settled_is) x)

    many_behind : length behind ≡ length s.values
    many_behind = (rounds_good (give text s) (monotone text s) (items_in ds) (length (items_in ds)) s.values consistent).as_many

    sound : AllByRecursion (Sound text s (length s.values) h.formed h.typed behind many_behind held) (items_in ds)
    sound = all_sound text s (length s.values) h.formed h.typed behind many_behind held ds (λ f x. never_here f (inl x))

    no_cycle : (k : ℕ) → k < length s.values → Reaches text (holding s behind) (items_in ds) k k → ⊥
    no_cycle k l way =
        let as_many = h.as_many in
        let i = there (items_in ds) k (omega (arith, l, as_many)) in
        never_here (fault SelfReference (cycle_place i.0.role i.0.name i.0.names)) (inr (inr (record { number = k; item = i.0; has = i.1; reaches = way; at = refl })))

    next : (k : ℕ) (i : Item) → slice_get (items_in ds) k ≡ Some i → known behind k ≡ None → Unknown text s (length s.values) h.formed h.typed behind many_behind held (needed text (holding s behind) i)
    next k i at unknown_at =
        item_needs text s (length s.values) h.formed h.typed behind many_behind held i (element (Sound text s (length s.values) h.formed h.typed behind many_behind held) (items_in ds) k i sound at)
        (by (give text s behind i) refl)
      where
        by : (o : Option Known) → give text s behind i ≡ o → give text s behind i ≡ None
        by None e = e
        by (Some f) e = absurd (none_some (sym unknown_at ∙ all_seen (give text s) (monotone text s) (items_in ds) behind (rounds_good (give text s) (monotone text s) (items_in ds) (length (items_in ds)) s.values consistent).consistent end k i f at e (let as_many = h.as_many in let many = many_behind in omega (arith, below text s (length s.values) h.formed h.typed behind many_behind held (items_in ds) k i at, as_many, many))))

    known_behind : (k : ℕ) → k < length s.values → HasValueAt behind k
    known_behind k l = known_or_not text s (length s.values) h.formed h.typed behind many_behind held (items_in ds) (sym h.as_many) next no_cycle k l

    -- so the names in an expression stand for what is known

    same_behind : (ns : List Name) → AllSame text s behind (filled behind) ns
    same_behind ns = by (unknown text s (length s.values) h.formed h.typed behind many_behind held ns)
      where
        by : AllSame text s behind (filled behind) ns ⊎ Unknown text s (length s.values) h.formed h.typed behind many_behind held (numbers_of text (holding s behind) ns) → AllSame text s behind (filled behind) ns
        by (inl all) = all
        by (inr u) = let k = known_behind u.0 u.3 in absurd (none_some (sym u.2 ∙ k.1))

    abbrev NeverHere : (Fault → Type 0) → Type 0
    NeverHere P = (f : Fault) → P f → ⊥

    pub type_behind : (e : TreeEx) → NeverHere (StatedFails text (holding s behind) e) → (t : ValueType) × (stated_type text (holding s behind) e ≡ Some t)
    type_behind e never = type_here text s (length s.values) h.formed h.typed behind many_behind held e (same_behind (names_in e)) never

    pub value_behind : (t : Option TreeEx) (e : TreeEx) (at : Pos) → NeverHere (FailsBefore text (holding s behind) t) → NeverHere (Fails text (holding s behind) e)
        → NeverHere (IsFault (single_fault (gives text (holding s behind) e))) → NeverHere (IsFault (value_fault (type_asked text (holding s behind) t) at (operand_in (gives text (holding s behind) e))))
        → NeverHere (IsFault (early_fault (call_in e) (operand_in (gives text (holding s behind) e)))) → (f : Fixed) × (given_by text (holding s behind) t (Some e) ≡ Some f)
    value_behind t e at = value_given text s (length s.values) h.formed h.typed behind many_behind held t e at (same_behind (names_in_some t)) (same_behind (names_in e))

    pub single_behind : (es : TreeExs) → NeverHere (FailsInEach text (holding s behind) es) → NeverHere (SinglesFail (seen text (holding s behind) es)) → are_single (seen text (holding s behind) es) ≡ true
    single_behind es = all_single text s (length s.values) h.formed h.typed behind many_behind held es (same_behind (names_in_each es))

    pub forms_behind : (es : TreeExs) → NeverHere (FormsFail text (holding s behind) es) → have_form text (holding s behind) es ≡ true
    forms_behind es = forms_hold text s (length s.values) h.formed h.typed behind many_behind held es

    pub no_call_behind : (es : TreeExs) → have_form text (holding s behind) es ≡ true → many_of (seen text (holding s behind) es) ≡ None
    no_call_behind es = forms_no_call text s (length s.values) h.formed h.typed behind many_behind held es

    pub counted_behind : (m k : ℕ) (own : Fault) → NeverHere (CountFails (Some m) k own) → m ≡ k
    counted_behind m k own = counted text s (length s.values) h.formed h.typed behind many_behind held m k own

    -- what is known of each is what its declaration gives
    pub known_there : (k : ℕ) (i : Item) → slice_get (items_in ds) k ≡ Some i → HasValueAt behind k
    known_there k i at =
        let as_many = h.as_many in let l = below text s (length s.values) h.formed h.typed behind many_behind held (items_in ds) k i at in known_behind k (omega (arith, l, as_many))

    pub given_there : (k : ℕ) (i : Item) (x : Known) → slice_get (items_in ds) k ≡ Some i → known behind k ≡ Some x → give text s behind i ≡ Some x
    given_there = (rounds_good (give text s) (monotone text s) (items_in ds) (length (items_in ds)) s.values consistent).consistent

    -- something is known of each
    pub all_known : (k : ℕ) → k < length s.values → (f : Known) × (known (settled text s (items_in ds)).values k ≡ Some f)
    all_known k l = let f = known_behind k l in (f.0, ap (λ (r : Scope). known r.values k) settled_is ∙ f.1)

    has_value : (k : ℕ) → k < length behind → IsKnown (known behind k)
    has_value k l = let many = many_behind in let f = known_behind k (omega (arith, l, many)) in subst IsKnown (sym f.1) (held k f.0 f.1)

    -- and each declaration a type
    pub settled_behind : IsSettled (holding s behind)
    settled_behind =
        (record { all = all_map (IsTypedOnceKnown s.types s.signatures (length s.values)) (IsTyped s.types s.signatures behind) s.declared (λ d x. typed_by s.types s.signatures behind has_value (length s.values) (sym many_behind) d x) h.typed; formed = h.formed })

    pub is_settled : IsSettled (settled text s (items_in ds))
    is_settled = subst (λ (r : Scope). IsSettled r) (sym settled_is) settled_behind
