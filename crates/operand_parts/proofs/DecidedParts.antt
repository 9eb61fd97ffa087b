-- What selectors, indices, array types and the form of literals give is decided: it is there where no rule of theirs fails.
use Rattle.std.proofs.Common.{◌≡◌, ◌<◌, ◌≤◌, ◌+◌, ◌*◌, ℕ, ℤ, pos, negsuc, Bool, true, false, cond, List, [], ◌∷◌, ◌⊎◌, inl, inr, Option, Some, None, refl, sym, ap, ◌∙◌, subst, arith}
use Rattle.std.specs.Prelude.{option_and_then, is_some, nat_lt, nat_le, ◌==◌, ◌&&◌, ◌||◌, not}
use Rattle.std.specs.Option.{option_map, unwrap_or}
use Rattle.std.proofs.lemmas.Bool.{eqb-true, leb-true, ltb-true}
use Rattle.base.specs.declared.pos.Pos.{Pos}
use Rattle.base.specs.declared.ids.TypeId.{TypeId}
use Rattle.base.specs.declared.ids.StructId.{StructId}
use Rattle.base.specs.declared.value_type.ValueType.{ValueType}
use Rattle.base.specs.declared.value_type.ValueType.TheVariants.{Int, Bool as Truth, Struct, Array, Pointer, Slice}
use Rattle.syntax.specs.declared.expression.Name.{Name}
use Rattle.syntax.specs.Expressions.{Elements, no_elements, element, spelled}
use Rattle.typed_syntax.specs.Syntax.{Ex, Pl, Steps, read, here, inner}
use Rattle.typed_syntax.specs.Syntax as typed
use Rattle.typed.specs.Tables.{Table, number_of}
use Rattle.typed.specs.Formed.{IsFormed, words_at}
use Rattle.type_faults.specs.declared.fault.Fault.{Fault}
use Rattle.type_faults.specs.declared.fault.FaultKind.TheVariants.{ConstIndex, Unfit, Unknown, OutOfProfile, TooLarge, ZeroSize, WrongCount}
use Rattle.type_faults.specs.Faults.{fault, IsFault}
use Rattle.type_faults.specs.Given.{allowed}
use Rattle.type_faults.proofs.Decided.{Decided, Tested, mapped}
use Rattle.type_faults.proofs.Options.{and_then_some, none_some}
use Rattle.constants.specs.declared.constant.Constant.{Constant}
use Rattle.constants.specs.declared.constant.Constant.TheVariants as const
use Rattle.constants.specs.Constants.{is_int}
use Rattle.operators.specs.Operands.{Operand, constant, value, nil}
use Rattle.names.specs.declared.fields.Part.{Part}
use Rattle.names.specs.Scope.{Scope}
use Rattle.names.specs.Types.{is_known, known_array, array_type}
use Rattle.names.specs.Blocks.{Blocks, innermost, insert}
use Rattle.names.specs.Fields.{named_field, part_count}
use Rattle.operand_parts.specs.Parts.{part_value, selected, place_then, ArrayType, array_parts, is_element, index_step, constant_step, number_step, value_step, element_of, indexed}
use Rattle.operand_parts.specs.PartFaults.{selected_fault, number_fault, constant_index_fault, int_fault, step_fault, whole_fault, indexed_fault}
use Rattle.operand_parts.specs.ArrayTypes.{number_length, constant_length, length_of, number_length_fault, constant_length_fault, length_fault, element_words, size_fault}
use Rattle.operand_parts.specs.Literals.{element_count, are_keyed, are_plain, element_part, keys_fit, shape_fits}
use Rattle.operand_parts.specs.LiteralFaults.{count_fault, KeysFail, TypedShapeFails}
use Rattle.operand_parts.proofs.Keys.{keys_tested}
use Rattle.operand_parts.proofs.Known.{elements_have, part_there}

-- ---- selectors

module _ (text : List ℕ) (s : Scope) where
  -- a value of a struct that has the field gives it
  pub selected_decided : (first : Pos) (n : Name) (x : Operand) → Decided (selected text s n x) (IsFault (selected_fault text s first n x))
  selected_decided first n (constant f) = (_, refl)
  selected_decided first n nil = (_, refl)
  selected_decided first n (value Int e) = (_, refl)
  selected_decided first n (value Truth e) = (_, refl)
  selected_decided first n (value (Array m t) e) = (_, refl)
  selected_decided first n (value (Pointer t) e) = (_, refl)
  selected_decided first n (value (Slice t) e) = (_, refl)
  selected_decided first n (value (Struct k) e) = by (named_field s (Struct k) (spelled text n))
    where
      by : (o : Option Part) → Decided (option_map (part_value e) o) (IsFault (cond (is_some o) None (Some (fault Unknown n.pos))))
      by None = (_, refl)
      by (Some p) = λ f h. h

-- ---- indices

number_decided : (first : Pos) (m : ℕ) (z : ℤ) → Decided (number_step m z) (IsFault (number_fault first m z))
number_decided first m (negsuc n) = (_, refl)
number_decided first m (pos n) = by (is_element m n)
  where
    by : (b : Bool) → Decided (cond b (Some (inner n here)) None) (IsFault (cond b None (Some (fault ConstIndex first))))
    by true = λ f h. h
    by false = (_, refl)

constant_decided : (first : Pos) (m : ℕ) (c : Constant) → Decided (constant_step m c) (IsFault (constant_index_fault first m c))
constant_decided first m (const.Number z) = number_decided first m z
constant_decided first m (const.Truth b) = (_, refl)

value_decided : (bracket first : Pos) (m : ℕ) (t : ValueType) (x : Ex) → Decided (value_step bracket m t x) (IsFault (int_fault first t))
value_decided bracket first m Int x = λ f h. h
value_decided bracket first m Truth x = (_, refl)
value_decided bracket first m (Struct k) x = (_, refl)
value_decided bracket first m (Array n e) x = (_, refl)
value_decided bracket first m (Pointer e) x = (_, refl)
value_decided bracket first m (Slice e) x = (_, refl)

step_decided : (bracket first : Pos) (m : ℕ) (i : Operand) → Decided (index_step bracket m i) (IsFault (step_fault first m (Some i)))
step_decided bracket first m (constant f) = constant_decided first m f.value
step_decided bracket first m (value t x) = value_decided bracket first m t x
step_decided bracket first m nil = (_, refl)

module _ (T : Table) (bracket first : Pos) where
  -- what is no place has no elements
  no_place : (o : Option ArrayType) (i : Operand) → Decided {A = Operand} None (IsFault (whole_fault first false o (Some i)))
  no_place None i = (_, refl)
  no_place (Some a) i = (_, refl)

  place_decided : (q : Pl) (i : Operand) (o : Option ArrayType) → Decided (option_and_then (element_of bracket q i) o) (IsFault (whole_fault first true o (Some i)))
  place_decided q i None = (_, refl)
  place_decided q i (Some a) =
      mapped (λ step. value a.element (read (place_then q step))) (index_step bracket a.length i) (IsFault (step_fault first a.length (Some i))) (step_decided bracket first a.length i)

  -- an element of an array that is a place, by an index within it
  pub indexed_decided : (a i : Operand) → Decided (indexed T bracket a i) (IsFault (indexed_fault T first a (Some i)))
  indexed_decided (constant f) i = (_, refl)
  indexed_decided nil i = (_, refl)
  indexed_decided (value t (read q)) i = place_decided q i (array_parts T t)
  indexed_decided (value t e) i = no_place (array_parts T t) i

-- ---- array types

number_length_decided : (at : Pos) (z : ℤ) → Decided (number_length z) (IsFault (number_length_fault at (number_length z)))
number_length_decided at (negsuc n) = (_, refl)
number_length_decided at (pos n) = by (cond (is_int (pos n)) (Some n) None)
  where
    by : (o : Option ℕ) → Decided o (IsFault (number_length_fault at o))
    by None = (_, refl)
    by (Some m) = λ f h. h

constant_length_decided : (at : Pos) (c : Constant) → Decided (constant_length c) (IsFault (constant_length_fault at c))
constant_length_decided at (const.Number z) = number_length_decided at z
constant_length_decided at (const.Truth b) = (_, refl)

pub length_decided : (at : Pos) (x : Operand) → Decided (length_of x) (IsFault (length_fault at (Some x)))
length_decided at (constant f) = constant_length_decided at f.value
length_decided at (value t x) = (_, refl)
length_decided at nil = (_, refl)

allowed_some : {A : Type 0} (b : Bool) (o : Option A) (x : A) → allowed b o ≡ Some x → b ≡ true
allowed_some true o x is = refl
allowed_some false o x is = absurd (none_some is)

-- the words of an array that a table has are within the limits
within : (T : Table) → IsFormed T → (n : ℕ) (t u : ValueType) → array_type T n t ≡ Some u → (0 < n * element_words T t) × (n * element_words T t ≤ 65535)
within T formed n t u is =
    let e = and_then_some (λ e. known_array T n (record { 0 = e })) (number_of T t) u is in
    let id : TypeId = record { 0 = e.0 } in
    let w = elements_have T formed n id (allowed_some (is_known T (Array n id)) (Some (Array n id)) u e.2) in
    let same : element_words T t ≡ w.words = ap (λ o. unwrap_or (option_and_then (words_at T) o) 0) e.1 ∙ ap (λ o. unwrap_or o 0) w.has in
    subst (λ k. (0 < n * k) × (n * k ≤ 65535)) (sym same) w.limits

-- the type is there, and has words that are within the limits; or one rule fails
pub array_decided : (T : Table) → IsFormed T → (bracket : Pos) (n : ℕ) (t : ValueType) → Decided (array_type T n t) (IsFault (size_fault T bracket n t))
array_decided T formed bracket n t = by (array_type T n t) refl (n * element_words T t == 0) refl (nat_lt 65535 (n * element_words T t)) refl
  where
    by : (o : Option ValueType) → array_type T n t ≡ o → (z : Bool) → (n * element_words T t == 0) ≡ z → (l : Bool) → nat_lt 65535 (n * element_words T t) ≡ l
        → Decided o (IsFault (option_map (λ kind. fault kind bracket) (cond z (Some ZeroSize) (cond l (Some TooLarge) (cond (is_some o) None (Some OutOfProfile))))))
    by None is true z l g = (_, refl)
    by None is false z true g = (_, refl)
    by None is false z false g = (_, refl)
    by (Some u) is true z l g = let w = within T formed n t u is in let none : n * element_words T t ≡ 0 = eqb-true (n * element_words T t) 0 z in absurd (omega (arith, w.0, none))
    by (Some u) is false z true g = let w = within T formed n t u is in let more : 65535 < n * element_words T t = ltb-true 65535 (n * element_words T t) g in absurd (omega (arith, w.1, more))
    by (Some u) is false z false g = λ f h. h

-- ---- the form of literals

module _ (text : List ℕ) (s : Scope) where
  -- where one of the keys isn't right there is a key
  not_plain : (t : ValueType) (before : Blocks) (es : Elements) → are_keyed es ≡ true → keys_fit text s t before es ≡ false → are_plain es ≡ false
  not_plain t before no_elements keyed bad = cc bad
  not_plain t before (element None e es) keyed bad = cc keyed
  not_plain t before (element (Some n) e es) keyed bad = refl

  -- no key fails where there is none
  none_fails : (t : ValueType) (before : Blocks) (es : Elements) → are_plain es ≡ true → (f : Fault) → KeysFail text s t before es f → ⊥
  none_fails t before no_elements plain f h = h
  none_fails t before (element None e es) plain f h = none_fails t before es plain f h
  none_fails t before (element (Some n) e es) plain f h = cc plain

  module _ (first : Pos) where
    struct_tested : (k : StructId) (es : Elements) → Tested (shape_fits text s (Struct k) es) (TypedShapeFails text s first (Struct k) es)
    struct_tested k es =
        by (are_keyed es) refl (are_plain es) refl (element_count es == part_count s.types (Struct k)) (keys_fit text s (Struct k) ([] ∷ []) es) refl (keys_tested text s (Struct k) ([] ∷ []) es)
      where
        by : (keyed : Bool) → are_keyed es ≡ keyed → (plain : Bool) → are_plain es ≡ plain → (count fits : Bool) → keys_fit text s (Struct k) ([] ∷ []) es ≡ fits → Tested fits (KeysFail text s (Struct k) ([] ∷ []) es)
            → Tested ((keyed && fits) || (plain && count)) (λ f. IsFault (cond keyed None (cond plain (count_fault count first) (Some (fault Unfit first)))) f ⊎ KeysFail text s (Struct k) ([] ∷ []) es f)
        by true a plain b count true c d = λ f h. elim h [ inl x ↦ x | inr x ↦ d f x ]
        by true a true b count false c d = let bad : true ≡ false = sym b ∙ not_plain (Struct k) ([] ∷ []) es a c in absurd cc
        by true a false b count false c d = (d.0, inr d.1)
        by false a true b true fits c d = λ f h. elim h [ inl x ↦ x | inr x ↦ none_fails (Struct k) ([] ∷ []) es b f x ]
        by false a true b false fits c d = (fault WrongCount first, inl refl)
        by false a false b count fits c d = (fault Unfit first, inl refl)

    array_tested : (n : ℕ) (e : TypeId) (es : Elements) → Tested (shape_fits text s (Array n e) es) (TypedShapeFails text s first (Array n e) es)
    array_tested n e es = by (are_plain es) (nat_le (element_count es) n)
      where
        by : (plain fits : Bool) → Tested (plain && fits) (λ f. IsFault (cond plain (count_fault fits first) (Some (fault OutOfProfile first))) f ⊎ ⊥)
        by true true = λ f h. elim h [ inl x ↦ x | inr x ↦ x ]
        by true false = (fault WrongCount first, inl refl)
        by false fits = (fault OutOfProfile first, inl refl)

    -- the elements have the form that the type asks for, or a rule fails
    pub shape_decided : (t : ValueType) (es : Elements) → Tested (shape_fits text s t es) (TypedShapeFails text s first t es)
    shape_decided Int es = (fault Unfit first, inl refl)
    shape_decided Truth es = (fault Unfit first, inl refl)
    shape_decided (Struct k) es = struct_tested k es
    shape_decided (Array n e) es = array_tested n e es
    shape_decided (Pointer e) es = (fault Unfit first, inl refl)
    shape_decided (Slice e) es = (fault Unfit first, inl refl)

  -- each element has its part, from this number on
  abbrev pub AllParts : ValueType → ℕ → Elements → Type 0
  AllParts t n no_elements = Unit {0}
  AllParts t n (element key e es) = (p : Part) × (element_part text s (Some t) n key ≡ Some p) × AllParts t (1 + n) es

  both_true : (a b : Bool) → (a && b) ≡ true → (a ≡ true) × (b ≡ true)
  both_true true b is = (refl, is)
  both_true false b is = cc is

  some_is : (o : Option Part) → is_some o ≡ true → (p : Part) × (o ≡ Some p)
  some_is None is = cc is
  some_is (Some p) is = (p, refl)

  keyed_parts : (t : ValueType) (n : ℕ) (before : Blocks) (es : Elements) → are_keyed es ≡ true → keys_fit text s t before es ≡ true → AllParts t n es
  keyed_parts t n before no_elements keyed fits = tt
  keyed_parts t n before (element None e es) keyed fits = cc keyed
  keyed_parts t n before (element (Some key) e es) keyed fits =
      let is_field = is_some (named_field s t (spelled text key)) in
      let is_new = not (is_some (innermost before (spelled text key))) in
      let a = both_true (is_field && is_new) (keys_fit text s t (insert before (spelled text key) 0) es) fits in
      let p = some_is (named_field s t (spelled text key)) (both_true is_field is_new a.0).0 in
      (p.0, p.1, keyed_parts t (1 + n) (insert before (spelled text key) 0) es keyed a.1)

  plain_parts : (t : ValueType) (n : ℕ) (es : Elements) → is_known s.types t ≡ true → are_plain es ≡ true → n + element_count es ≤ part_count s.types t → AllParts t n es
  plain_parts t n no_elements known plain few = tt
  plain_parts t n (element (Some key) e es) known plain few = cc plain
  plain_parts t n (element None e es) known plain few =
      let p = part_there s.types t n known (omega (arith, few)) in
      (p.0, p.1, plain_parts t (1 + n) es known plain (omega (arith, few)))

  -- where the form is right each element has its part
  pub parts_there : (t : ValueType) (es : Elements) → shape_fits text s t es ≡ true → is_known s.types t ≡ true → AllParts t 0 es
  parts_there Int es fits known = cc fits
  parts_there Truth es fits known = cc fits
  parts_there (Pointer e) es fits known = cc fits
  parts_there (Slice e) es fits known = cc fits
  parts_there (Array n e) es fits known =
      let a = both_true (are_plain es) (nat_le (element_count es) n) fits in
      let few : element_count es ≤ n = leb-true (element_count es) n a.1 in
      plain_parts (Array n e) 0 es known a.0 (omega (arith, few))
  parts_there (Struct k) es fits known = by (are_keyed es && keys_fit text s (Struct k) ([] ∷ []) es) refl fits
    where
      by : (b : Bool) → (are_keyed es && keys_fit text s (Struct k) ([] ∷ []) es) ≡ b → (b || (are_plain es && (element_count es == part_count s.types (Struct k)))) ≡ true → AllParts (Struct k) 0 es
      by true is fits1 = let a = both_true (are_keyed es) (keys_fit text s (Struct k) ([] ∷ []) es) is in keyed_parts (Struct k) 0 ([] ∷ []) es a.0 a.1
      by false is fits1 =
          let a = both_true (are_plain es) (element_count es == part_count s.types (Struct k)) fits1 in
          let same : element_count es ≡ part_count s.types (Struct k) = eqb-true (element_count es) (part_count s.types (Struct k)) a.1 in
          plain_parts (Struct k) 0 es known a.0 (omega (arith, same))
