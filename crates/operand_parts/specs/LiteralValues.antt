-- What composite literals give, by what their elements give (Go specification, "Composite literals", "Assignability"), and which rules of
-- these values fail. A rule is looked at only where the part and its value are known.
use Rattle.std.specs.Prelude.{ℕ, ◌⊎◌, Bool, List, [], ◌∷◌, Option, Some, None, option_and_then, if◌then◌else◌}
use Rattle.std.specs.Option.{option_map}
use Rattle.base.specs.declared.pos.Pos.{Pos}
use Rattle.base.specs.declared.value_type.ValueType.{ValueType}
use Rattle.typed_syntax.specs.Syntax.{Ex, Elements, no_elements, element, literal}
use Rattle.typed.specs.Tables.{Table}
use Rattle.type_faults.specs.declared.fault.Fault.{Fault}
use Rattle.type_faults.specs.declared.fault.FaultKind.TheVariants.{Mismatch}
use Rattle.type_faults.specs.Faults.{fault, IsFault}
use Rattle.type_faults.specs.Given.{allowed}
use Rattle.operators.specs.ConstantFaults.{constant_range_fault}
use Rattle.operators.specs.Operands.{Operand, constant, value, is_assignable, as_value}
use Rattle.names.specs.declared.fields.Part.{Part}
use Rattle.names.specs.Scope.{type_number}

-- an element: the part of the whole that it stands for, where that is known, its first byte, and its value, where it has one
pub record Placed : Type 0 where
  pub part : Option Part
  pub at : Pos
  pub operand : Option Operand

-- a value that a part takes, with the part's number
pub record PartValue : Type 0 where
  pub number : ℕ
  pub value : Ex

abbrev pub part_value_with : Part → Ex → PartValue
part_value_with p e = record { number = p.number; value = e }

abbrev pub taken_as : Part → Operand → Option PartValue
taken_as p x = option_map (part_value_with p) (allowed (is_assignable p.value_type x) (as_value x))

abbrev pub value_of_part : Option Part → Option Operand → Option PartValue
value_of_part None x = None
value_of_part (Some p) x = option_and_then (taken_as p) x

-- those of all elements, where each has one
abbrev pub part_values : List Placed → Option (List PartValue)
part_values [] = Some []
part_values (q ∷ qs) = option_and_then (λ v. option_map (λ vs. v ∷ vs) (part_values qs)) (value_of_part q.part q.operand)

abbrev pub elements_with : List PartValue → Elements
elements_with [] = no_elements
elements_with (v ∷ vs) = element v.number v.value (elements_with vs)

abbrev pub literal_with : Table → ValueType → List PartValue → Operand
literal_with T t vs = value t (literal (type_number T t) (elements_with vs))

-- a literal of a type, whose form fits
abbrev pub composed : Table → ValueType → Bool → List Placed → Option Operand
composed T t fits qs = option_map (literal_with T t) (allowed fits (part_values qs))

-- ---- which rules fail

-- a constant that its type doesn't hold
abbrev pub held_fault : Pos → Operand → Option Fault
held_fault at (constant f) = constant_range_fault at f.value
held_fault at x = None

-- a value of another type than its part, or one that is no value of it
abbrev pub taking_fault : Pos → ValueType → Operand → Option Fault
taking_fault at t x = if is_assignable t x then held_fault at x else Some (fault Mismatch at)

abbrev pub operand_fault : Pos → ValueType → Option Operand → Option Fault
operand_fault at t None = None
operand_fault at t (Some x) = taking_fault at t x

abbrev pub placed_fault : Pos → Option Part → Option Operand → Option Fault
placed_fault at None x = None
placed_fault at (Some p) x = operand_fault at p.value_type x

abbrev pub ElementsFail : List Placed → Fault → Type 0
ElementsFail [] f = ⊥
ElementsFail (q ∷ qs) f = IsFault (placed_fault q.at q.part q.operand) f ⊎ ElementsFail qs f
