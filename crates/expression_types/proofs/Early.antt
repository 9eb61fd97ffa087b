-- Constants that are worked out early rest on constants alone: where the names of constants stand for the same ones, an expression gives the
-- same constant, whatever types the scopes have.
use Rattle.std.proofs.Common.{◌≡◌, Bool, true, false, ◌&&◌, List, Option, Some, None, refl, sym, ap, ◌∙◌}
use Rattle.std.specs.Prelude.{ℕ, option_and_then}
use Rattle.std.specs.Option.{option_map}
use Rattle.base.specs.declared.pos.Pos.{Pos}
use Rattle.base.specs.declared.value_type.ValueType.{ValueType}
use Rattle.syntax.specs.declared.expression.Name.{Name}
use Rattle.syntax.specs.declared.operator.BinOp.{BinOp}
use Rattle.syntax.specs.declared.operator.UnOp.{UnOp}
use Rattle.syntax.specs.Expressions.{Ex as TreeEx, Elements as TreeElements, number, string, name, unary, binary, paren, call, selector, index, slice, array_type, slice_type, literal, elements, spelled}
use Rattle.typed_syntax.specs.Syntax.{Ex, Pl, read}
use Rattle.constants.specs.declared.constant.Fixed.{Fixed}
use Rattle.type_faults.specs.Given.{allowed, both}
use Rattle.type_faults.proofs.Options.{none_some, same_some}
use Rattle.typed.specs.Tables.{Table}
use Rattle.operators.specs.Operands.{Operand, constant, value, nil, type_of, as_value}
use Rattle.operators.specs.Operators.{has_rules, takes_one, prefix_of, takes_both, right_allowed, both_values, prefixed, combined}
use Rattle.names.specs.Scope.{Scope, declaration}
use Rattle.names.specs.Fields.{named_field}
use Rattle.operand_parts.specs.Parts.{part_value, selected, ArrayType, index_step, array_parts, element_of, indexed}
use Rattle.operand_parts.specs.Literals.{shape_fits}
use Rattle.operand_parts.specs.LiteralValues.{Placed, literal_with, part_values}
use Rattle.operand_calls.specs.Calls.{first_of}
use Rattle.given_values.specs.Given.{one, name_operand, prefix_gives, pair_gives, operand_in}
use Rattle.expression_types.specs.Typing.{literal_given, gives, stated_type, placed, call_in, early, early_gives}

-- a constant that is given early is given, and no call works it out
pub early_constant : (at : Option Pos) (o : Option Operand) (f : Fixed) → option_and_then (early at) o ≡ Some (constant f)
    → (at ≡ None) × (o ≡ Some (constant f))
early_constant at None f h = absurd (none_some h)
early_constant None (Some (constant g)) f h = (refl, h)
early_constant (Some at) (Some (constant g)) f h = absurd (none_some h)
early_constant at (Some (value t x)) f h = let bad : value t x ≡ constant f = same_some h in absurd cc
early_constant at (Some nil) f h = let bad : nil ≡ constant f = same_some h in absurd cc

first_none : (a b : Option Pos) → first_of a b ≡ None → (a ≡ None) × (b ≡ None)
first_none None b h = (refl, h)
first_none (Some at) b h = absurd (none_some (sym h))

-- ---- what gives no constant

-- nothing but values, whether there is one or not
no_constant : {A : Type 0} (k : A → Operand) → ((a : A) (f : Fixed) → k a ≡ constant f → ⊥) → (o : Option A) (f : Fixed)
    → option_map k o ≡ Some (constant f) → ⊥
no_constant k none None f h = none_some h
no_constant k none (Some a) f h = none a f (same_some h)

no_allowed : {A : Type 0} (k : A → Operand) → ((a : A) (f : Fixed) → k a ≡ constant f → ⊥) → (b : Bool) (o : Option A) (f : Fixed)
    → allowed b (option_map k o) ≡ Some (constant f) → ⊥
no_allowed k none true o f h = no_constant k none o f h
no_allowed k none false o f h = none_some h

-- a value is none
value_other : (t : ValueType) (x : Ex) (f : Fixed) → value t x ≡ constant f → ⊥
value_other t x f h = cc h

one_operand : (o : Option Operand) → operand_in (option_map one o) ≡ o
one_operand None = refl
one_operand (Some x) = refl

no_selection : (text : List ℕ) (s : Scope) (n : Name) (o : Option Operand) (f : Fixed) → option_and_then (selected text s n) o ≡ Some (constant f) → ⊥
no_selection text s n None f h = none_some h
no_selection text s n (Some (constant g)) f h = none_some h
no_selection text s n (Some (value t e)) f h = no_constant (part_value e) (λ p g. value_other _ _ g) (named_field s t (spelled text n)) f h
no_selection text s n (Some nil) f h = none_some h

no_element : (at : Pos) (q : Pl) (i : Operand) (o : Option ArrayType) (f : Fixed) → option_and_then (element_of at q i) o ≡ Some (constant f) → ⊥
no_element at q i None f h = none_some h
no_element at q i (Some a) f h = no_constant _ (λ step g. value_other _ _ g) (index_step at a.length i) f h

no_index_of : (T : Table) (at : Pos) (x i : Operand) (f : Fixed) → indexed T at x i ≡ Some (constant f) → ⊥
no_index_of T at (value t (read q)) i f h = no_element at q i (array_parts T t) f h
no_index_of T at x i f h = none_some h

no_index : (T : Table) (at : Pos) (o i : Option Operand) (f : Fixed) → both (indexed T at) o i ≡ Some (constant f) → ⊥
no_index T at None i f h = none_some h
no_index T at (Some x) None f h = none_some h
no_index T at (Some x) (Some y) f h = no_index_of T at x y f h

no_literal : (text : List ℕ) (s : Scope) (o : Option ValueType) (es : TreeElements) (qs : List Placed) (f : Fixed)
    → operand_in (literal_given text s o es qs) ≡ Some (constant f) → ⊥
no_literal text s None es qs f h = none_some h
no_literal text s (Some t) es qs f h =
    no_constant (literal_with s.types t) (λ vs g. value_other _ _ g) (allowed (shape_fits text s t es) (part_values qs)) f
    (sym (one_operand (option_map (literal_with s.types t) (allowed (shape_fits text s t es) (part_values qs)))) ∙ h)

-- ---- operators on constants

-- what is a constant of the first is the same of the second
abbrev pub StaysConstant : Option Operand → Option Operand → Type 0
StaysConstant o p = (f : Fixed) → o ≡ Some (constant f) → p ≡ Some (constant f)

prefix_stays : (op : UnOp) (o p : Option Operand) → StaysConstant o p → StaysConstant (option_and_then (prefixed op) o) (option_and_then (prefixed op) p)
prefix_stays op None p stays f h = absurd (none_some h)
prefix_stays op (Some (constant g)) p stays f h = ap (option_and_then (prefixed op)) (stays g refl) ∙ h
prefix_stays op (Some (value t x)) p stays f h = absurd (no_allowed _ (λ typed_op g. value_other _ _ g) (takes_one op t) (prefix_of op) f h)
prefix_stays op (Some nil) p stays f h = absurd (none_some h)

prefix_given : (op : UnOp) (b : Bool) (o p : Option Operand) → StaysConstant o p → StaysConstant (operand_in (prefix_gives op b o)) (operand_in (prefix_gives op b p))
prefix_given op false o p stays f h = h
prefix_given op true o p stays f h =
    one_operand (option_and_then (prefixed op) p) ∙ prefix_stays op o p stays f (sym (one_operand (option_and_then (prefixed op) o)) ∙ h)

no_pair : (at : Pos) (op : BinOp) (b : Bool) (x y : Option Ex) (f : Fixed) → allowed b (both_values at op x y) ≡ Some (constant f) → ⊥
no_pair at op true (Some x) (Some y) f h = value_other _ _ f (same_some h)
no_pair at op true (Some x) None f h = none_some h
no_pair at op true None y f h = none_some h
no_pair at op false x y f h = none_some h

pair_constants : (at : Pos) (op : BinOp) (a b : Operand) (f : Fixed) → combined at op a b ≡ Some (constant f)
    → (c : Fixed) × (d : Fixed) × (a ≡ constant c) × (b ≡ constant d)
pair_constants at op (constant c) (constant d) f h = (c, d, refl, refl)
pair_constants at op a b f h = absurd (no_pair at op (takes_both op (type_of a) (type_of b) && right_allowed op b) (as_value a) (as_value b) f h)

pair_stays : (at : Pos) (op : BinOp) (o p i j : Option Operand) → StaysConstant o p → StaysConstant i j → StaysConstant (both (combined at op) o i) (both (combined at op) p j)
pair_stays at op None p i j left right f h = absurd (none_some h)
pair_stays at op (Some a) p None j left right f h = absurd (none_some h)
pair_stays at op (Some a) p (Some b) j left right f h =
    let c = pair_constants at op a b f h in
    ap (λ (x : Option Operand). both (combined at op) x j) (left c.0 (ap Some c.2) ∙ sym (ap Some c.2))
    ∙ ap (λ (y : Option Operand). both (combined at op) (Some a) y) (right c.1 (ap Some c.3) ∙ sym (ap Some c.3)) ∙ h

-- ---- expressions

module _ (text : List ℕ) (r s : Scope) (stay : (word : List ℕ) → StaysConstant (name_operand r (declaration r word)) (name_operand s (declaration s word))) where
  -- what gives a constant in the first without a call gives it in the second
  constant_kept : (e : TreeEx) → call_in e ≡ None → StaysConstant (operand_in (gives text r e)) (operand_in (gives text s e))
  constant_kept (number at n) none f h = h
  constant_kept (string at behind) none f h = absurd (none_some h)
  constant_kept (name n) none f h =
      let word = spelled text n in
      one_operand (name_operand s (declaration s word)) ∙ stay word f (sym (one_operand (name_operand r (declaration r word))) ∙ h)
  constant_kept (unary at op e) none f h =
      prefix_given op (has_rules op) (operand_in (gives text r e)) (operand_in (gives text s e)) (constant_kept e none) f h
  constant_kept (binary at op x y) none f h =
      let n = first_none (call_in x) (call_in y) none in
      one_operand (both (combined at op) (operand_in (gives text s x)) (operand_in (gives text s y)))
      ∙ pair_stays at op (operand_in (gives text r x)) (operand_in (gives text s x)) (operand_in (gives text r y)) (operand_in (gives text s y))
      (constant_kept x n.0) (constant_kept y n.1) f
      (sym (one_operand (both (combined at op) (operand_in (gives text r x)) (operand_in (gives text r y)))) ∙ h)
  constant_kept (paren at e) none f h = constant_kept e none f h
  constant_kept (call g es spread) none f h = absurd (none_some (sym none))
  constant_kept (selector e at n) none f h =
      absurd (no_selection text r n (operand_in (gives text r e)) f (sym (one_operand (option_and_then (selected text r n) (operand_in (gives text r e)))) ∙ h))
  constant_kept (index e at i) none f h =
      absurd (no_index r.types at (operand_in (gives text r e)) (operand_in (gives text r i)) f
      (sym (one_operand (both (indexed r.types at) (operand_in (gives text r e)) (operand_in (gives text r i)))) ∙ h))
  constant_kept (slice e at low high) none f h = absurd (none_some h)
  constant_kept (array_type at len e) none f h = absurd (none_some h)
  constant_kept (slice_type at e) none f h = absurd (none_some h)
  constant_kept (literal e es) none f h = absurd (no_literal text r (stated_type text r e) es (placed text r (stated_type text r e) 0 es) f h)
  constant_kept (elements at es) none f h = absurd (none_some h)

  -- and so what gives one early
  pub early_kept : (e : TreeEx) → StaysConstant (early_gives text r e) (early_gives text s e)
  early_kept e f h =
      let c = early_constant (call_in e) (operand_in (gives text r e)) f h in
      ap (option_and_then (early (call_in e))) (constant_kept e c.0 f c.1) ∙ ap (λ (at : Option Pos). early at (constant f)) c.0
