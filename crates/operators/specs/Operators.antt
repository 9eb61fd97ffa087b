-- What the rules of the language give operators on their operands (Go specification, "Operators", "Constant expressions").
use Rattle.std.specs.Prelude.{Bool, true, false, not, ◌&&◌, ◌||◌, Option, Some, None, Result, if◌then◌else◌}
use Rattle.std.specs.Option.{option_map}
use Rattle.base.specs.declared.pos.Pos.{Pos}
use Rattle.syntax.specs.declared.operator.ArithmeticOp.{ArithmeticOp}
use Rattle.syntax.specs.declared.operator.ArithmeticOp.TheVariants as arithmetic
use Rattle.syntax.specs.declared.operator.BinOp.{BinOp}
use Rattle.syntax.specs.declared.operator.BinOp.TheVariants.{Arithmetic, Compare, LogicalAnd, LogicalOr}
use Rattle.syntax.specs.declared.operator.UnOp.{UnOp}
use Rattle.syntax.specs.declared.operator.UnOp.TheVariants.{Plus, Negate, Complement, Not}
use Rattle.syntax.specs.declared.operator.CompareOp.{CompareOp}
use Rattle.syntax.specs.declared.operator.CompareOp.TheVariants as compare
use Rattle.typed_syntax.specs.declared.operators.BinOp.{BinOp as TypedOp}
use Rattle.typed_syntax.specs.declared.operators.BinOp.TheVariants as op
use Rattle.typed_syntax.specs.declared.operators.UnOp.{UnOp as TypedPrefix}
use Rattle.typed_syntax.specs.declared.operators.UnOp.TheVariants as prefix
use Rattle.typed_syntax.specs.Syntax.{Ex}
use Rattle.typed.specs.Positions.{position}
use Rattle.typed_syntax.specs.Syntax as typed
use Rattle.constants.specs.declared.constant.Constant.{Constant}
use Rattle.constants.specs.declared.constant.Fixed.{Fixed}
use Rattle.base.specs.declared.value_type.ValueType.{ValueType}
use Rattle.base.specs.declared.value_type.ValueType.TheVariants.{Int, Bool as Boolean, Slice}
use Rattle.base.specs.Types.{same_type}
use Rattle.type_faults.specs.Given.{allowed}
use Rattle.constants.specs.Constants.{constant_type, is_held, is_zero, is_negative}
use Rattle.operators.specs.declared.folding.Const.{Const}
use Rattle.operators.specs.declared.folding.ConstFault.{ConstFault}
use Rattle.operators.specs.Folding.{folded, folded_one}
use Rattle.operators.specs.Operands.{Operand, constant, value, nil, type_of, as_value, const_of, constant_of}

-- the prefixes that have rules; a use of any other is left out of the profile
abbrev pub has_rules : UnOp → Bool
has_rules Plus = true
has_rules Negate = true
has_rules Complement = true
has_rules Not = true
has_rules other = false

-- the types of operand that a prefix takes
abbrev pub takes_one : UnOp → ValueType → Bool
takes_one Plus Int = true
takes_one Negate Int = true
takes_one Complement Int = true
takes_one Not Boolean = true
takes_one op t = false

-- and whether it takes one of a type or of none
abbrev pub takes_operand : UnOp → Option ValueType → Bool
takes_operand op (Some t) = takes_one op t
takes_operand op None = false

abbrev pub prefix_of : UnOp → Option TypedPrefix
prefix_of Plus = Some prefix.Plus
prefix_of Negate = Some prefix.Negate
prefix_of Complement = Some prefix.Complement
prefix_of Not = Some prefix.Not
prefix_of other = None

-- values of one type can be compared, but no two slices
abbrev pub are_comparable : ValueType → ValueType → Bool
are_comparable (Slice e) t = false
are_comparable s t = same_type s t

-- the types of operands that an operator takes
abbrev pub takes : BinOp → ValueType → ValueType → Bool
takes (Arithmetic op) Int Int = true
takes (Compare compare.Equal) s t = are_comparable s t
takes (Compare compare.NotEqual) s t = are_comparable s t
takes (Compare op) Int Int = true
takes LogicalAnd Boolean Boolean = true
takes LogicalOr Boolean Boolean = true
takes op s t = false

-- and whether it takes two of these types; nil has none
abbrev pub takes_both : BinOp → Option ValueType → Option ValueType → Bool
takes_both op (Some s) (Some t) = takes op s t
takes_both op s t = false

-- the type of what it gives
abbrev pub result_type : BinOp → ValueType
result_type (Arithmetic op) = Int
result_type other = Boolean

abbrev pub is_division : BinOp → Bool
is_division (Arithmetic arithmetic.Div) = true
is_division (Arithmetic arithmetic.Rem) = true
is_division other = false

abbrev pub is_shift : BinOp → Bool
is_shift (Arithmetic arithmetic.ShiftLeft) = true
is_shift (Arithmetic arithmetic.ShiftRight) = true
is_shift other = false

-- no constant divisor is 0, and no constant count of a shift is negative
abbrev pub stands_right : BinOp → Constant → Bool
stands_right op c = not (is_division op && is_zero c) && not (is_shift op && is_negative c)

abbrev pub right_allowed : BinOp → Operand → Bool
right_allowed op (constant f) = stands_right op f.value
right_allowed op (value t x) = true
right_allowed op nil = true

abbrev pub arithmetic_of : ArithmeticOp → TypedOp
arithmetic_of arithmetic.Add = op.Add
arithmetic_of arithmetic.Sub = op.Sub
arithmetic_of arithmetic.Mul = op.Mul
arithmetic_of arithmetic.Div = op.Div
arithmetic_of arithmetic.Rem = op.Rem
arithmetic_of arithmetic.And = op.And
arithmetic_of arithmetic.Or = op.Or
arithmetic_of arithmetic.Xor = op.Xor
arithmetic_of arithmetic.AndNot = op.AndNot
arithmetic_of arithmetic.ShiftLeft = op.ShiftLeft
arithmetic_of arithmetic.ShiftRight = op.ShiftRight

abbrev pub compare_of : CompareOp → TypedOp
compare_of compare.Equal = op.Equal
compare_of compare.NotEqual = op.NotEqual
compare_of compare.Less = op.Less
compare_of compare.LessEqual = op.LessEqual
compare_of compare.Greater = op.Greater
compare_of compare.GreaterEqual = op.GreaterEqual

-- an operator on two values, when the program runs
abbrev pub typed_pair : Pos → BinOp → Ex → Ex → Ex
typed_pair pos (Arithmetic op) x y = typed.binary (position pos) (arithmetic_of op) x y
typed_pair pos (Compare op) x y = typed.binary (position pos) (compare_of op) x y
typed_pair pos LogicalAnd x y = typed.logical_and x y
typed_pair pos LogicalOr x y = typed.logical_or x y

-- constants are worked out exactly, all else is worked out when the program runs
abbrev pub prefixed : UnOp → Operand → Option Operand
prefixed op (constant f) = allowed (takes_one op (constant_type f.value_type f.value)) (constant_of f.value_type (folded_one op (const_of f.value)))
prefixed op (value t x) = allowed (takes_one op t) (option_map (λ typed_op. value t (typed.unary typed_op x)) (prefix_of op))
prefixed op nil = None

abbrev pub both_values : Pos → BinOp → Option Ex → Option Ex → Option Operand
both_values pos op (Some x) (Some y) = Some (value (result_type op) (typed_pair pos op x y))
both_values pos op x y = None

-- two operands, one of which at least is no constant
abbrev pub value_pair : Pos → BinOp → Operand → Operand → Option Operand
value_pair pos op a b = allowed (takes_both op (type_of a) (type_of b) && right_allowed op b) (both_values pos op (as_value a) (as_value b))

-- the type of what two constants give: a comparison gives an untyped truth value, a shift has the type of its left operand, and all else the
-- type of an operand that has one
abbrev pub either_type : Option ValueType → Option ValueType → Option ValueType
either_type None t = t
either_type (Some s) t = Some s

abbrev pub joint_type : BinOp → Option ValueType → Option ValueType → Option ValueType
joint_type (Compare op) s t = None
joint_type op s t = if is_shift op then s else either_type s t

-- an untyped operand takes the type of the other one, but for the count of a shift
abbrev pub converts : BinOp → Fixed → Fixed → Bool
converts op a b = is_shift op || (is_held b.value_type a.value && is_held a.value_type b.value)

abbrev pub worked_out : BinOp → Fixed → Fixed → Result Const ConstFault
worked_out op a b = folded op (const_of a.value) (const_of b.value)

abbrev pub constant_pair : BinOp → Fixed → Fixed → Option Operand
constant_pair op a b =
    allowed (takes op (constant_type a.value_type a.value) (constant_type b.value_type b.value) && converts op a b) (constant_of (joint_type op a.value_type b.value_type) (worked_out op a b))

abbrev pub combined : Pos → BinOp → Operand → Operand → Option Operand
combined pos op (constant a) (constant b) = constant_pair op a b
combined pos op a b = value_pair pos op a b
