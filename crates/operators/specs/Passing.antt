-- What lies in memory as abstract syntax.
use Rattle.typed.specs.View.{ex_of, place_of as place_view}
use Rattle.operators.specs.declared.operand.Operand.{Operand as OperandData}
use Rattle.operators.specs.declared.operand.Operand.TheVariants.{Constant, Value, Nil}
use Rattle.operators.specs.declared.operand.TypedPlace.{TypedPlace as TypedPlaceData}
use Rattle.operators.specs.Operands.{Operand, constant, value, nil, TypedPlace}

abbrev pub operand_of : OperandData → Operand
operand_of (Constant f) = constant f
operand_of (Value t e) = value t (ex_of e)
operand_of Nil = nil

abbrev pub typed_place_of : TypedPlaceData → TypedPlace
typed_place_of p = record { value_type = p.value_type; place = place_view p.place }
