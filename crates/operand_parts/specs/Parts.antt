-- The parts of operands: fields of structs and elements of arrays (Go specification, "Selectors", "Index expressions", "Address operators").
-- A part of a place is a place; a part of any other value is a value.
use Rattle.std.specs.Prelude.{ℕ, ℤ, ◌^◌, pos, negsuc, nat_lt, Bool, ◌&&◌, List, Option, Some, None, option_and_then, if◌then◌else◌}
use Rattle.std.specs.Option.{option_map}
use Rattle.base.specs.declared.pos.Pos.{Pos}
use Rattle.base.specs.declared.value_type.ValueType.{ValueType}
use Rattle.base.specs.declared.value_type.ValueType.TheVariants.{Int, Array}
use Rattle.syntax.specs.declared.expression.Name.{Name}
use Rattle.syntax.specs.Expressions.{spelled}
use Rattle.typed_syntax.specs.Syntax.{Ex, Pl, Steps, read, local, global, indirect, slice_element, here, inner, at_index}
use Rattle.typed_syntax.specs.Syntax as typed
use Rattle.typed.specs.Positions.{position}
use Rattle.typed.specs.Tables.{Table, type_at}
use Rattle.type_faults.specs.Given.{allowed}
use Rattle.constants.specs.declared.constant.Constant.{Constant}
use Rattle.constants.specs.declared.constant.Constant.TheVariants.{Number, Truth}
use Rattle.operators.specs.Operands.{Operand, constant, value, nil}
use Rattle.names.specs.declared.fields.Part.{Part}
use Rattle.names.specs.Scope.{Scope}
use Rattle.names.specs.Types.{is_known}
use Rattle.names.specs.Fields.{named_field}

-- the steps to a part, and more from there
abbrev pub steps_then : Steps → Steps → Steps
steps_then here more = more
steps_then (inner i steps) more = inner i (steps_then steps more)
steps_then (at_index at e n steps) more = at_index at e n (steps_then steps more)

abbrev pub place_then : Pl → Steps → Pl
place_then (local site steps) more = local site (steps_then steps more)
place_then (global g steps) more = global g (steps_then steps more)
place_then (indirect at e n steps) more = indirect at e n (steps_then steps more)
place_then (slice_element at e i n steps) more = slice_element at e i n (steps_then steps more)

-- ---- fields

-- a part of a value of the type with the number `owner`
abbrev pub part_read : (owner n : ℕ) → Ex → Ex
part_read owner n (read q) = read (place_then q (inner n here))
part_read owner n e = typed.part_of owner n e

abbrev pub part_value : Ex → Part → Operand
part_value e p = value p.value_type (part_read p.owner.0 p.number e)

module _ (text : List ℕ) (s : Scope) where
  -- the field of a value that has a name; no constant has fields
  abbrev pub selected : Name → Operand → Option Operand
  selected n (value t e) = option_map (part_value e) (named_field s t (spelled text n))
  selected n x = None

-- ---- elements

-- an array type that a table has, by its length and the type of its elements
pub record ArrayType : Type 0 where
  pub length : ℕ
  pub element : ValueType

abbrev pub array_parts : Table → ValueType → Option ArrayType
array_parts T (Array m e) = allowed (is_known T (Array m e)) (Some (record { length = m; element = type_at T e.0 }))
array_parts T t = None

-- numbers of elements have 32 bits: no array of a program has as many elements
abbrev pub is_element : (length : ℕ) → ℕ → Bool
is_element m n = nat_lt n m && nat_lt n (2 ^ 32)

-- the step to an element of an array of a length: an index that is a constant is one of its numbers, and any other an int that is looked at
-- when the program runs
abbrev pub number_step : (length : ℕ) → ℤ → Option Steps
number_step m (pos n) = if is_element m n then Some (inner n here) else None
number_step m (negsuc n) = None

abbrev pub constant_step : (length : ℕ) → Constant → Option Steps
constant_step m (Number z) = number_step m z
constant_step m (Truth b) = None

abbrev pub value_step : Pos → (length : ℕ) → ValueType → Ex → Option Steps
value_step at m Int x = Some (at_index (position at) x m here)
value_step at m t x = None

abbrev pub index_step : Pos → (length : ℕ) → Operand → Option Steps
index_step at m (constant f) = constant_step m f.value
index_step at m (value t x) = value_step at m t x
index_step at m nil = None

abbrev pub element_of : Pos → Pl → Operand → ArrayType → Option Operand
element_of at q i a = option_map (λ step. value a.element (read (place_then q step))) (index_step at a.length i)

-- an element of an array that is a place; elements of other arrays are left out
abbrev pub indexed : Table → Pos → Operand → Operand → Option Operand
indexed T at (value t (read q)) i = option_and_then (element_of at q i) (array_parts T t)
indexed T at a i = None
