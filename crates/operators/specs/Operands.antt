-- What an expression gives as one value, and constants as operands (Go specification, "Constant expressions").
use Rattle.std.specs.Prelude.{Bool, false, Option, Some, None, Result, Ok, Err, if◌then◌else◌}
use Rattle.typed_syntax.specs.Value.{int, bool}
use Rattle.typed_syntax.specs.Syntax.{Ex, Pl, read}
use Rattle.typed_syntax.specs.Syntax as typed
use Rattle.constants.specs.declared.constant.Constant.{Constant}
use Rattle.constants.specs.declared.constant.Constant.TheVariants.{Number, Truth}
use Rattle.constants.specs.declared.constant.Fixed.{Fixed}
use Rattle.base.specs.declared.value_type.ValueType.{ValueType}
use Rattle.base.specs.Types.{same_type}
use Rattle.type_faults.specs.Given.{allowed}
use Rattle.constants.specs.Constants.{constant_type, is_int, is_held}
use Rattle.operators.specs.declared.folding.Const.{Const}
use Rattle.operators.specs.declared.folding.Const.TheVariants as const
use Rattle.operators.specs.declared.folding.ConstFault.{ConstFault}

-- what an expression gives as one value: a constant with its exact value, a value of a type that is worked out when the program runs, or nil
pub data Operand : Type 0 where
  constant : Fixed → Operand
  value : ValueType → Ex → Operand
  nil : Operand

-- the type of an operand; nil has none
abbrev pub type_of : Operand → Option ValueType
type_of (constant f) = Some (constant_type f.value_type f.value)
type_of (value t x) = Some t
type_of nil = None

-- whether a place of a type can be given an operand (Go specification, "Assignability"); nil stands for no value of the types that there are
abbrev pub is_assignable : ValueType → Operand → Bool
is_assignable t (constant f) = same_type t (constant_type f.value_type f.value)
is_assignable t (value u x) = same_type t u
is_assignable t nil = false

-- a place of a type: a variable or a part of one, which can be given a value (Go specification, "Address operators", "Assignment statements")
pub record TypedPlace : Type 0 where
  pub value_type : ValueType
  pub place : Pl

-- the place whose value an operand is; what is worked out otherwise is that of none
abbrev pub place_of : Operand → Option TypedPlace
place_of (value t (read q)) = Some (record { value_type = t; place = q })
place_of other = None

-- a constant as a value of its type, where the type has one
abbrev pub constant_value : Constant → Option Ex
constant_value (Number z) = if is_int z then Some (typed.constant (int z)) else None
constant_value (Truth b) = Some (typed.constant (bool b))

abbrev pub as_value : Operand → Option Ex
as_value (constant f) = constant_value f.value
as_value (value t x) = Some x
as_value nil = None

abbrev pub const_of : Constant → Const
const_of (Number z) = const.Int z
const_of (Truth b) = const.Bool b

-- a constant of a type or of none
abbrev pub of_type : Option ValueType → Constant → Option Operand
of_type t c = allowed (is_held t c) (Some (constant (record { value_type = t; value = c })))

-- a constant expression's value, where it has one
abbrev pub constant_of : Option ValueType → Result Const ConstFault → Option Operand
constant_of t (Ok (const.Int z)) = of_type t (Number z)
constant_of t (Ok (const.Bool b)) = of_type t (Truth b)
constant_of t (Ok const.NoConst) = None
constant_of t (Err e) = None
