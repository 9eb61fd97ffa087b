-- The types of values that are taken; after the new variables of a `:=` every variable has a type.
use Rattle.std.proofs.Common.{◌≡◌, ℕ, suc, Bool, true, false, cond, List, [], ◌∷◌, length, Option, Some, None, refl, sym, ap, ◌∙◌, subst}
use Rattle.std.specs.Prelude.{option_and_then, ◌&&◌, ◌==◌}
use Rattle.std.specs.Option.{option_map}
use Rattle.std.proofs.lemmas.Bool.{eqb-true}
use Rattle.syntax.specs.declared.expression.Name.{Name}
use Rattle.syntax.specs.Expressions.{spelled}
use Rattle.typed_syntax.specs.Syntax.{Ex, Exs}
use Rattle.base.specs.declared.value_type.ValueType.{ValueType}
use Rattle.type_faults.specs.Given.{allowed}
use Rattle.type_faults.proofs.Options.{and_then_some, map_some, none_some}
use Rattle.operators.specs.Operands.{type_of, as_value}
use Rattle.given_values.proofs.ValuesFit.{typed_value}
use Rattle.names.specs.Scope.{Scope}
use Rattle.names.proofs.Settled.{IsSettled}
use Rattle.given_values.specs.declared.wants.Wanted.{Wanted}
use Rattle.given_values.specs.Given.{Seen, Many, type_in_one, fits_with, all_values, types_with, many, operand_in, value_in, values, single_types, value_types, values_agree, types_agree, each, taken}
use Rattle.signatures.specs.declared.slots.Slot.{Slot}
use Rattle.signatures.specs.Entries.{slots_each}
use Rattle.signatures.proofs.SettledEntries.{settled_with, AllTyped, each_typed}
use Rattle.simple_statements.specs.SimpleStatements.{slot_declares, new_slots, with_slot, with_variables, taken_types}

-- ---- the types of values that are taken

both_true : (a b : Bool) → (a && b) ≡ true → (a ≡ true) × (b ≡ true)
both_true true b is = (refl, is)
both_true false b is = cc is

pub allowed_is : {A : Type 0} (b : Bool) (o : Option A) (x : A) → allowed b o ≡ Some x → (b ≡ true) × (o ≡ Some x)
allowed_is true o x is = (refl, is)
allowed_is false o x is = absurd (none_some is)

types_of_values : (os : List Seen) (xs : List Ex) → values os ≡ Some xs → (ts : List ValueType) × (single_types os ≡ Some ts) × (length ts ≡ length os)
types_of_values [] xs is = ([], refl, refl)
types_of_values (o ∷ os) xs is =
    let r = and_then_some (λ x. option_map (λ ys. x ∷ ys) (values os)) (value_in o.gives) xs is in
    let q = map_some (λ ys. r.0 ∷ ys) (values os) xs r.2 in
    let p = and_then_some as_value (operand_in o.gives) r.0 r.1 in
    let rest = types_of_values os q.0 q.1 in
    let t = typed_value p.0 r.0 p.2 in
    let one : type_in_one o.gives ≡ Some t.0 = ap (option_and_then type_of) p.1 ∙ t.1 in
    (t.0 ∷ rest.0, ap (option_and_then (λ t. option_map (λ ts. t ∷ ts) (single_types os))) one ∙ ap (option_map (λ ts. t.0 ∷ ts)) rest.1, ap suc rest.2)

-- there are as many as places
pub types_taken : (ps : List Wanted) (os : List Seen) (es : Exs) → taken ps os ≡ Some es → (ts : List ValueType) × (value_types os ≡ Some ts) × (length ts ≡ length ps)
types_taken ps os es is = by (many os) is
  where
    by : (m : Option Many) → allowed (fits_with ps os m) (all_values os m) ≡ Some es → (ts : List ValueType) × (types_with os m ≡ Some ts) × (length ts ≡ length ps)
    by None is1 =
        let a = allowed_is ((length os == length ps) && values_agree ps os) (option_map each (values os)) es is1 in
        let long = eqb-true (length os) (length ps) (both_true (length os == length ps) (values_agree ps os) a.0).0 in
        let q = map_some each (values os) es a.1 in
        let t = types_of_values os q.0 q.1 in
        (t.0, t.1, t.2 ∙ long)
    by (Some m) is1 =
        let a = allowed_is ((length m.types == length ps) && types_agree ps m.types) (all_values os (Some m)) es is1 in
        (m.types, refl, eqb-true (length m.types) (length ps) (both_true (length m.types == length ps) (types_agree ps m.types) a.0).0)

pub taken_types_are : (ps : List Wanted) (os : List Seen) (es : Exs) → taken ps os ≡ Some es → (ts : List ValueType) × (taken_types ps os ≡ Some ts) × (length ts ≡ length ps)
taken_types_are ps os es is =
    let t = types_taken ps os es is in
    (t.0, ap (option_and_then (λ v. value_types os)) is ∙ t.1, t.2)

module _ (text : List ℕ) where
  new_typed : (s : Scope) (vs : List Slot) → AllTyped vs → AllTyped (new_slots text s vs)
  new_typed s [] all = tt
  new_typed s (v ∷ vs) all = by (slot_declares text s v.name) (new_typed s vs all.2)
    where
      by : (b : Bool) → AllTyped (new_slots text s vs) → AllTyped (cond b (v ∷ new_slots text s vs) (new_slots text s vs))
      by true rest = (all.0, all.1, rest)
      by false rest = rest

  settled_slot : (s : Scope) (t : ValueType) (n : Option Name) → IsSettled s → IsSettled (with_slot text (Some t) s n)
  settled_slot s t None settled = settled
  settled_slot s t (Some n) settled = settled_with s (spelled text n) t n.pos settled

  settled_variables : (s : Scope) (vs : List Slot) → AllTyped vs → IsSettled s → IsSettled (with_variables text s vs)
  settled_variables s [] all settled = settled
  settled_variables s (v ∷ vs) all settled =
      settled_variables (with_slot text v.value_type s v.name) vs all.2 (subst (λ (o : Option ValueType). IsSettled (with_slot text o s v.name)) (sym all.1) (settled_slot s all.0 v.name settled))

  -- after the new variables of a `:=`
  pub settled_new : (s : Scope) (ts : List ValueType) (ns : List Name) → length ts ≡ length ns → IsSettled s → IsSettled (with_variables text s (new_slots text s (slots_each (Some ts) ns)))
  settled_new s ts ns long settled = settled_variables s (new_slots text s (slots_each (Some ts) ns)) (new_typed s (slots_each (Some ts) ns) (each_typed ts ns long)) settled
