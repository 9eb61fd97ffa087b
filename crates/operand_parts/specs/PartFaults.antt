-- Which rules of selectors and indices fail, and where each is reported. A rule is looked at only where its operands give something.
use Rattle.std.specs.Prelude.{ℕ, ℤ, pos, negsuc, Bool, true, false, List, Option, Some, None, is_some, if◌then◌else◌}
use Rattle.base.specs.declared.pos.Pos.{Pos}
use Rattle.base.specs.declared.value_type.ValueType.{ValueType}
use Rattle.base.specs.declared.value_type.ValueType.TheVariants.{Int, Struct}
use Rattle.syntax.specs.declared.expression.Name.{Name}
use Rattle.syntax.specs.Expressions.{spelled}
use Rattle.typed.specs.Tables.{Table}
use Rattle.type_faults.specs.declared.fault.Fault.{Fault}
use Rattle.type_faults.specs.declared.fault.FaultKind.TheVariants.{Unknown, ConstIndex, Unfit, OutOfProfile}
use Rattle.type_faults.specs.Faults.{fault}
use Rattle.constants.specs.declared.constant.Constant.{Constant}
use Rattle.constants.specs.declared.constant.Constant.TheVariants.{Number, Truth}
use Rattle.operators.specs.Operands.{Operand, constant, value, nil, place_of}
use Rattle.names.specs.Scope.{Scope}
use Rattle.names.specs.Fields.{named_field}
use Rattle.operand_parts.specs.Parts.{ArrayType, array_parts, is_element}

-- ---- selectors

-- a struct has those fields alone that its declaration names
abbrev pub field_fault : Bool → Pos → Option Fault
field_fault has_field at = if has_field then None else Some (fault Unknown at)

module _ (text : List ℕ) (s : Scope) where
  -- and nothing else has any: that is reported at the first byte
  abbrev pub selected_fault : Pos → Name → Operand → Option Fault
  selected_fault first n (value (Struct k) e) = field_fault (is_some (named_field s (Struct k) (spelled text n))) n.pos
  selected_fault first n x = Some (fault Unfit first)

  abbrev pub selector_fault : Pos → Name → Option Operand → Option Fault
  selector_fault first n None = None
  selector_fault first n (Some x) = selected_fault first n x

-- ---- indices

-- a constant index is the number of an element
abbrev pub number_fault : Pos → (length : ℕ) → ℤ → Option Fault
number_fault first m (pos n) = if is_element m n then None else Some (fault ConstIndex first)
number_fault first m (negsuc n) = Some (fault ConstIndex first)

abbrev pub constant_index_fault : Pos → (length : ℕ) → Constant → Option Fault
constant_index_fault first m (Number z) = number_fault first m z
constant_index_fault first m (Truth b) = Some (fault Unfit first)

-- and any other is an int
abbrev pub int_fault : Pos → ValueType → Option Fault
int_fault first Int = None
int_fault first t = Some (fault Unfit first)

abbrev pub step_fault : Pos → (length : ℕ) → Option Operand → Option Fault
step_fault first m None = None
step_fault first m (Some (constant f)) = constant_index_fault first m f.value
step_fault first m (Some (value t x)) = int_fault first t
step_fault first m (Some nil) = Some (fault Unfit first)

-- an array that is no place can't be indexed, whatever the index
abbrev pub element_fault : Pos → (is_place : Bool) → ArrayType → Option Operand → Option Fault
element_fault first true a i = step_fault first a.length i
element_fault first false a i = Some (fault OutOfProfile first)

-- what is no array, where the index gives something
abbrev pub no_array_fault : Pos → Option Operand → Option Fault
no_array_fault first None = None
no_array_fault first (Some i) = Some (fault Unfit first)

abbrev pub whole_fault : Pos → (is_place : Bool) → Option ArrayType → Option Operand → Option Fault
whole_fault first is_place None i = no_array_fault first i
whole_fault first is_place (Some a) i = element_fault first is_place a i

abbrev pub indexed_fault : Table → Pos → Operand → Option Operand → Option Fault
indexed_fault T first (value t x) i = whole_fault first (is_some (place_of (value t x))) (array_parts T t) i
indexed_fault T first x i = no_array_fault first i

-- by what stands before the bracket, and inside
abbrev pub index_fault : Table → Pos → Option Operand → Option Operand → Option Fault
index_fault T first None i = None
index_fault T first (Some a) i = indexed_fault T first a i
