-- What lies in memory as abstract syntax, and what the checker's pass works out of what it knows of the parts.
use Rattle.std.specs.Prelude.{◌≡◌, ℕ, ◌^◌, pos, nat_lt, Option, Some, None, if◌then◌else◌, Bool, true, false}
use Rattle.std.specs.Option.{option_map, option_and_then}
use Rattle.syntax.specs.declared.expression.Name.{Name}
use Rattle.syntax.specs.declared.expression.Element.{Element as TreeElement}
use Rattle.syntax.specs.declared.expression.Element.TheVariants as element
use Rattle.syntax.specs.Expressions.{Ex as TreeEx, elements, ex_of as tree_of}
use Rattle.type_faults.specs.declared.fault.Fault.{Fault}
use Rattle.type_faults.specs.Least.{IsLeast, lesser}
use Rattle.constants.specs.declared.constant.Constant.TheVariants.{Number}
use Rattle.constants.specs.Constants.{untyped}
use Rattle.operators.specs.Operands.{constant}
use Rattle.expression_types.specs.declared.literals.Stated.{Stated}
use Rattle.base.specs.declared.value_type.ValueType.{ValueType}
use Rattle.given_values.specs.Given.{Gives, one}

-- what stands before the names of a declaration: the type that is known of it, and its fault
abbrev pub type_before : Option Stated → Option (Option ValueType)
type_before o = option_map (λ t. t.value_type) o

abbrev pub fault_before : Option Stated → Option Fault
fault_before o = option_and_then (λ t. t.fault) o

abbrev pub literal_operand : ℕ → Option Gives
literal_operand n = if nat_lt n (2 ^ 127) then Some (one (constant (untyped (Number (pos n))))) else None

-- ---- composite literals

-- the key and the value of an element
abbrev pub key_in : TreeElement → Option Name
key_in (element.Plain e) = None
key_in (element.Keyed n e) = Some n

abbrev pub element_value : TreeElement → TreeEx
element_value (element.Plain e) = tree_of e
element_value (element.Keyed n e) = tree_of e

-- whether an element has no type of its own
abbrev pub is_bare : TreeEx → Bool
is_bare (elements at es) = true
is_bare e = false

-- the least fault of a literal: of its form, of its elements, and of their values
abbrev pub IsLiteralFault : (shape values : Fault → Type 0) → (inside all : Option Fault) → Type 0
IsLiteralFault S E inside all = (own : Option Fault) × (value : Option Fault) × IsLeast S own × IsLeast E value × (all ≡ lesser (lesser own inside) value)
