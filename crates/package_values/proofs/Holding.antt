-- A scope with other constants and variables: its types and their fields stay the same, so a selector rests on the value before it alone, and
-- a composite literal on its type and its elements.
use Rattle.std.proofs.Common.{◌≡◌, ℕ, Bool, not, List, [], ◌∷◌, inl, inr, Option, Some, None, refl, sym, ap, ◌∙◌, subst}
use Rattle.std.specs.Prelude.{is_some, ◌==◌, ◌&&◌, ◌||◌}
use Rattle.std.specs.Option.{option_map}
use Rattle.base.specs.declared.pos.Pos.{Pos}
use Rattle.base.specs.declared.value_type.ValueType.{ValueType}
use Rattle.base.specs.declared.value_type.ValueType.TheVariants.{Int, Bool as Boolean, Struct, Array, Pointer, Slice}
use Rattle.syntax.specs.declared.expression.Name.{Name}
use Rattle.syntax.specs.Expressions.{Elements as TreeElements, no_elements, element, spelled}
use Rattle.type_faults.specs.declared.fault.Fault.{Fault}
use Rattle.type_faults.specs.Faults.{IsFault}
use Rattle.operators.specs.Operands.{Operand, constant, value, nil}
use Rattle.names.specs.declared.scope.Known.{Known}
use Rattle.names.specs.Scope.{Scope}
use Rattle.names.specs.declared.fields.Part.{Part}
use Rattle.names.specs.Blocks.{Blocks, innermost, insert}
use Rattle.names.specs.Fields.{part_count, named_field}
use Rattle.operand_parts.specs.Parts.{part_value, selected}
use Rattle.operand_parts.specs.PartFaults.{selected_fault, selector_fault}
use Rattle.operand_parts.specs.Literals.{element_count, are_keyed, are_plain, element_part, keys_fit, shape_fits}
use Rattle.operand_parts.specs.LiteralFaults.{key_fault, KeysFail, StructKeysFail, ShapeFails}
use Rattle.operand_parts.specs.LiteralValues.{Placed, composed}
use Rattle.given_values.specs.Given.{one}
use Rattle.expression_types.specs.Typing.{literal_given}

-- a scope with these constants and variables
abbrev pub holding : Scope → List (Option Known) → Scope
holding s cs = record s { values = cs }

module _ (text : List ℕ) (s : Scope) (cs ds : List (Option Known)) where
  pub field_same : (t : ValueType) (name : List ℕ) → named_field (holding s cs) t name ≡ named_field (holding s ds) t name
  field_same Int name = refl
  field_same Boolean name = refl
  field_same (Struct k) name = refl
  field_same (Array n e) name = refl
  field_same (Pointer e) name = refl
  field_same (Slice e) name = refl

  pub select_same : (n : Name) (x : Operand) → selected text (holding s cs) n x ≡ selected text (holding s ds) n x
  select_same n (constant f) = refl
  select_same n (value t e) = ap (option_map (part_value e)) (field_same t (spelled text n))
  select_same n nil = refl

  select_fault_same : (at : Pos) (n : Name) (x : Operand) → selected_fault text (holding s cs) at n x ≡ selected_fault text (holding s ds) at n x
  select_fault_same at n (constant f) = refl
  select_fault_same at n (value Int e) = refl
  select_fault_same at n (value Boolean e) = refl
  select_fault_same at n (value (Struct k) e) = refl
  select_fault_same at n (value (Array m t) e) = refl
  select_fault_same at n (value (Pointer t) e) = refl
  select_fault_same at n (value (Slice t) e) = refl
  select_fault_same at n nil = refl

  pub selector_fault_same : (at : Pos) (n : Name) (o : Option Operand) → selector_fault text (holding s cs) at n o ≡ selector_fault text (holding s ds) at n o
  selector_fault_same at n None = refl
  selector_fault_same at n (Some x) = select_fault_same at n x

  -- ---- composite literals

  pub part_same : (t : Option ValueType) (n : ℕ) (key : Option Name) → element_part text (holding s cs) t n key ≡ element_part text (holding s ds) t n key
  part_same None n key = refl
  part_same (Some t) n None = refl
  part_same (Some t) n (Some key) = field_same t (spelled text key)

  keys_same : (t : ValueType) (before : Blocks) (es : TreeElements) → keys_fit text (holding s cs) t before es ≡ keys_fit text (holding s ds) t before es
  keys_same t before no_elements = refl
  keys_same t before (element None e es) = keys_same t before es
  keys_same t before (element (Some n) e es) =
      let is_before = is_some (innermost before (spelled text n)) in
      ap (λ (o : Option Part). (is_some o && not is_before) && keys_fit text (holding s cs) t (insert before (spelled text n) 0) es) (field_same t (spelled text n))
      ∙ ap (λ (b : Bool). (is_some (named_field (holding s ds) t (spelled text n)) && not is_before) && b) (keys_same t (insert before (spelled text n) 0) es)

  shape_same : (t : ValueType) (es : TreeElements) → shape_fits text (holding s cs) t es ≡ shape_fits text (holding s ds) t es
  shape_same Int es = refl
  shape_same Boolean es = refl
  shape_same (Struct k) es = ap (λ (b : Bool). (are_keyed es && b) || (are_plain es && (element_count es == part_count s.types (Struct k)))) (keys_same (Struct k) ([] ∷ []) es)
  shape_same (Array n e) es = refl
  shape_same (Pointer e) es = refl
  shape_same (Slice e) es = refl

  pub literal_same : (t : Option ValueType) (es : TreeElements) (qs : List Placed) → literal_given text (holding s cs) t es qs ≡ literal_given text (holding s ds) t es qs
  literal_same None es qs = refl
  literal_same (Some t) es qs = ap (λ (b : Bool). option_map one (composed s.types t b qs)) (shape_same t es)

  keys_back : (t : ValueType) (before : Blocks) (es : TreeElements) (f : Fault) → KeysFail text (holding s ds) t before es f → KeysFail text (holding s cs) t before es f
  keys_back t before no_elements f h = h
  keys_back t before (element None e es) f h = keys_back t before es f h
  keys_back t before (element (Some n) e es) f (inl h) =
      inl (subst (λ (o : Option Part). IsFault (key_fault (is_some o) (is_some (innermost before (spelled text n))) n.pos) f) (sym (field_same t (spelled text n))) h)
  keys_back t before (element (Some n) e es) f (inr h) = inr (keys_back t (insert before (spelled text n) 0) es f h)

  struct_keys_back : (t : ValueType) (es : TreeElements) (f : Fault) → StructKeysFail text (holding s ds) t es f → StructKeysFail text (holding s cs) t es f
  struct_keys_back Int es f h = h
  struct_keys_back Boolean es f h = h
  struct_keys_back (Struct k) es f h = keys_back (Struct k) ([] ∷ []) es f h
  struct_keys_back (Array n e) es f h = h
  struct_keys_back (Pointer e) es f h = h
  struct_keys_back (Slice e) es f h = h

  pub shape_back : (first : Pos) (t : Option ValueType) (es : TreeElements) (f : Fault) → ShapeFails text (holding s ds) first t es f → ShapeFails text (holding s cs) first t es f
  shape_back first None es f h = h
  shape_back first (Some t) es f (inl h) = inl h
  shape_back first (Some t) es f (inr h) = inr (struct_keys_back t es f h)
