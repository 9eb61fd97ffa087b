-- Looks at the constants and variables of a package keep scopes alike.
use Rattle.std.proofs.Common.{◌≡◌, inl, inr, ℕ, zero, suc, ◌+◌, Bool, true, false, ◌&&◌, List, [], ◌∷◌, length, Option, Some, None, sym, ap, ◌∙◌, subst}
use Rattle.std.specs.Prelude.{option_and_then}
use Rattle.std.specs.Option.{option_map}
use Rattle.std.proofs.lemmas.Bool.{false≢true}
use Rattle.base.specs.declared.value_type.ValueType.{ValueType}
use Rattle.base.specs.declared.value_type.ValueType.TheVariants.{Int, Bool as Boolean, Struct, Array, Pointer, Slice}
use Rattle.base.specs.Types.{same_type}
use Rattle.syntax.specs.Expressions.{Ex as TreeEx, name, paren, array_type, spelled}
use Rattle.constants.specs.declared.constant.Fixed.{Fixed}
use Rattle.constants.specs.Constants.{constant_type}
use Rattle.type_faults.specs.Given.{allowed}
use Rattle.type_faults.proofs.Options.{and_then_some, map_some, none_some, same_some}
use Rattle.typed.specs.Tables.{Table, number_of}
use Rattle.names.specs.declared.scope.Declared.{Declared}
use Rattle.names.specs.declared.scope.Declared.TheVariants as declared
use Rattle.names.specs.declared.scope.Known.TheVariants as known_as
use Rattle.names.specs.Scope.{Scope, declaration, with_known}
use Rattle.names.specs.Types.{is_known, declared_type, known_array, array_type as array_of}
use Rattle.operand_parts.specs.ArrayTypes.{length_of, array_with}
use Rattle.expression_types.specs.Typing.{stated_type, early_gives}
use Rattle.package_values.specs.declared.items.Role.{Role}
use Rattle.package_values.specs.declared.items.Role.TheVariants as role
use Rattle.package_values.specs.Values.{Item, with_type, accepted, given_by, variable_type, given_as, given, look, looks, settled, as_constant}
use Rattle.package_values.proofs.Giving.{allowed_gives}
use Rattle.types_go.proofs.Alike.{SameConstant, Alike, declaration_alike, set_alike}
use Rattle.types_go.proofs.Constants.{constant_kept}

-- ---- the types of constants

abbrev pub IsBasic : ValueType → Type 0
IsBasic Int = Unit {0}
IsBasic Boolean = Unit {0}
IsBasic (Struct k) = ⊥
IsBasic (Array n e) = ⊥
IsBasic (Pointer e) = ⊥
IsBasic (Slice e) = ⊥

not_both : (a : Bool) → (a && false) ≡ true → ⊥
not_both true h = false≢true h
not_both false h = false≢true h

-- a type that holds a constant
held_basic : (t : ValueType) (c f : Fixed) → with_type t c ≡ Some f → IsBasic t
held_basic Int c f h = tt
held_basic Boolean c f h = tt
held_basic (Struct k) c f h =
    let p = allowed_gives (same_type (Struct k) (constant_type c.value_type c.value) && false) _ f h in
    not_both (same_type (Struct k) (constant_type c.value_type c.value)) p.0
held_basic (Array n e) c f h =
    let p = allowed_gives (same_type (Array n e) (constant_type c.value_type c.value) && false) _ f h in
    not_both (same_type (Array n e) (constant_type c.value_type c.value)) p.0
held_basic (Pointer e) c f h =
    let p = allowed_gives (same_type (Pointer e) (constant_type c.value_type c.value) && false) _ f h in
    not_both (same_type (Pointer e) (constant_type c.value_type c.value)) p.0
held_basic (Slice e) c f h =
    let p = allowed_gives (same_type (Slice e) (constant_type c.value_type c.value) && false) _ f h in
    not_both (same_type (Slice e) (constant_type c.value_type c.value)) p.0

-- what is a type by a name
type_named : (T : Table) (d : Option Declared) (u : ValueType) → declared_type T d ≡ Some u → d ≡ Some (declared.«Type» u)
type_named T (Some (declared.«Type» t)) u h =
    ap (λ (x : ValueType). Some (declared.«Type» x)) (same_some (allowed_gives (is_known T t) (Some t) u h).1)
type_named T d u h = absurd (none_some h)

array_not_basic : (T : Table) (n : Option ℕ) (t : Option ValueType) (u : ValueType) → array_with T n t ≡ Some u → IsBasic u → ⊥
array_not_basic T n t u h basic =
    let p = and_then_some (λ m. option_and_then (array_of T m) t) n u h in
    let q = and_then_some (array_of T p.0) t u p.2 in
    let k = and_then_some (λ e. known_array T p.0 (record { 0 = e })) (number_of T q.0) u q.2 in
    let a = allowed_gives (is_known T (Array p.0 (record { 0 = k.0 }))) (Some (Array p.0 (record { 0 = k.0 }))) u k.2 in
    subst IsBasic (sym (same_some a.1)) basic

module _ (text : List ℕ) (T : Table) (int : is_known T Int ≡ true) (bool : is_known T Boolean ≡ true) where
  basic_known : (u : ValueType) → IsBasic u → is_known T u ≡ true
  basic_known Int basic = int
  basic_known Boolean basic = bool
  basic_known (Struct k) basic = absurd basic
  basic_known (Array n e) basic = absurd basic
  basic_known (Pointer e) basic = absurd basic
  basic_known (Slice e) basic = absurd basic

  module _ (r s : Scope) (a : Alike T r s) where
    known_there : (u : ValueType) → IsBasic u → declared_type s.types (Some (declared.«Type» u)) ≡ Some u
    known_there u basic =
        ap (λ (b : Bool). allowed b (Some u)) (ap (λ (U : Table). is_known U u) a.types ∙ basic_known u basic)

    basic_stated : (e : TreeEx) (u : ValueType) → IsBasic u → stated_type text r e ≡ Some u → stated_type text s e ≡ Some u
    basic_stated (name n) u basic h =
        let is = type_named r.types (declaration r (spelled text n)) u h in
        elim (declaration_alike T r s a (spelled text n)) [
          | inl same ↦ ap (declared_type s.types) (sym same ∙ is) ∙ known_there u basic
          | inr untyped ↦ absurd (none_some (sym (ap (declared_type r.types) untyped) ∙ h))
        ]
    basic_stated (paren at e) u basic h = basic_stated e u basic h
    basic_stated (array_type at len e) u basic h =
        let n = option_and_then length_of (early_gives text r len) in
        absurd (array_not_basic r.types n (stated_type text r e) u h basic)
    basic_stated e u basic h = absurd (none_some h)

    -- ---- what is given of a constant

    accepted_kept : (t : Option TreeEx) (c f : Fixed) → accepted text r t c ≡ Some f → accepted text s t c ≡ Some f
    accepted_kept None c f h = h
    accepted_kept (Some e) c f h =
        let p = and_then_some (λ u. with_type u c) (stated_type text r e) f h in
        ap (option_and_then (λ u. with_type u c)) (basic_stated e p.0 (held_basic p.0 c f p.2) p.1) ∙ p.2

    value_kept : (t v : Option TreeEx) (f : Fixed) → given_by text r t v ≡ Some f → given_by text s t v ≡ Some f
    value_kept t None f h = absurd (none_some h)
    value_kept t (Some e) f h =
        let p = and_then_some (accepted text r t) (option_and_then as_constant (early_gives text r e)) f h in
        ap (option_and_then (accepted text s t)) (constant_kept text T r s a e p.0 p.1) ∙ accepted_kept t p.0 f p.2

    same_value : (f g : Fixed) → known_as.Constant f ≡ known_as.Constant g → f ≡ g
    same_value f g h = cc h

    no_variable : (o : Option ValueType) (f : Fixed) → option_map known_as.Variable o ≡ Some (known_as.Constant f) → ⊥
    no_variable None f h = none_some h
    no_variable (Some t) f h = let apart : known_as.Variable t ≡ known_as.Constant f = same_some h in cc apart

    given_kept_as : (q : Role) (i : Item) → SameConstant (given_as text q r i) (given_as text q s i)
    given_kept_as role.Constant i f h =
        let p = map_some known_as.Constant (given_by text r i.type_expr i.value) (known_as.Constant f) h in
        ap (option_map known_as.Constant) (value_kept i.type_expr i.value p.0 p.1) ∙ ap Some p.2
    given_kept_as role.Variable i f h =
        absurd (no_variable (variable_type text r i.type_expr i.value i.values (length i.names) i.place) f h)

    given_kept : (i : Item) → SameConstant (given text r i) (given text s i)
    given_kept i = given_kept_as i.role i

  -- ---- looks

  look_alike : (k : ℕ) (r s : Scope) (is : List Item) → Alike T r s → Alike T (look text k r is) (look text k s is)
  look_alike k r s [] a = a
  look_alike k r s (i ∷ is) a =
      look_alike (1 + k) (with_known r k (given text r i)) (with_known s k (given text s i)) is
      (set_alike T r s a k (given text r i) (given text s i) (given_kept r s a i))

  looks_alike : (n : ℕ) (r s : Scope) (is : List Item) → Alike T r s → Alike T (looks text n r is) (looks text n s is)
  looks_alike zero r s is a = a
  looks_alike (suc n) r s is a = looks_alike n (look text 0 r is) (look text 0 s is) is (look_alike 0 r s is a)

  pub settled_alike : (r s : Scope) (is : List Item) → Alike T r s → Alike T (settled text r is) (settled text s is)
  settled_alike r s is a = looks_alike (length is) r s is a
