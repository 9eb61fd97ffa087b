-- What lies in memory as abstract syntax.
use Rattle.std.specs.Prelude.{List, [], ◌∷◌, map}
use Rattle.std.specs.Option.{option_map}
use Rattle.typed_syntax.specs.Syntax.{Steps}
use Rattle.typed.specs.declared.expr.Step.{Step}
use Rattle.typed.specs.declared.expr.Element.{Element}
use Rattle.typed.specs.declared.expr.Element.TheVariants.{For}
use Rattle.typed.specs.View.{ex_of, steps_of}
use Rattle.operators.specs.Passing.{operand_of}
use Rattle.operand_parts.specs.declared.literal_values.Placed.{Placed as PlacedData}
use Rattle.operand_parts.specs.LiteralValues.{Placed, PartValue}
use Rattle.operand_parts.specs.declared.indices.ArrayType.{ArrayType as ArrayData}
use Rattle.operand_parts.specs.Parts.{ArrayType}
use Rattle.operand_parts.specs.declared.literals.Elision.{Elision as ElisionData}
use Rattle.operand_parts.specs.declared.literals.Elision.TheVariants.{AsType, Refused, Unknown}
use Rattle.operand_parts.specs.Literals.{Elision, as_type, refused, unknown}

abbrev pub elision_of : ElisionData → Elision
elision_of (AsType t) = as_type t
elision_of Refused = refused
elision_of Unknown = unknown

-- one step alone
abbrev pub step_view : Step → Steps
step_view step = steps_of (step ∷ [])

abbrev pub array_view : ArrayData → ArrayType
array_view a = record { length = a.length; element = a.element }

-- ---- the values of literals

abbrev pub placed_of : PlacedData → Placed
placed_of q = record { part = q.part; at = q.pos; operand = option_map operand_of q.operand }

abbrev pub placeds : List PlacedData → List Placed
placeds qs = map placed_of qs

abbrev pub part_value_of : Element → PartValue
part_value_of (For i e) = record { number = i; value = ex_of e }
