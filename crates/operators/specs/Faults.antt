-- Which rules of an operator fail on its operands, and where each is reported. A rule is looked at only where all operands give something.
use Rattle.std.specs.Prelude.{Bool, true, false, ◌&&◌, ◌||◌, Option, Some, None, Result, Ok, Err, if◌then◌else◌}
use Rattle.base.specs.declared.pos.Pos.{Pos}
use Rattle.syntax.specs.declared.operator.BinOp.{BinOp}
use Rattle.syntax.specs.declared.operator.UnOp.{UnOp}
use Rattle.type_faults.specs.declared.fault.Fault.{Fault}
use Rattle.type_faults.specs.declared.fault.FaultKind.{FaultKind}
use Rattle.type_faults.specs.declared.fault.FaultKind.TheVariants.{Mismatch, ConstRange, Unfit, ConstZeroDivisor}
use Rattle.constants.specs.declared.constant.Constant.{Constant}
use Rattle.constants.specs.declared.constant.Constant.TheVariants.{Number, Truth}
use Rattle.constants.specs.declared.constant.Fixed.{Fixed}
use Rattle.base.specs.declared.value_type.ValueType.{ValueType}
use Rattle.base.specs.Types.{same_type}
use Rattle.constants.specs.Constants.{is_held, is_zero, is_negative}
use Rattle.type_faults.specs.Faults.{fault, IsFault}
use Rattle.operators.specs.ConstantFaults.{constant_range_fault, held_fault}
use Rattle.operators.specs.declared.folding.Const.{Const}
use Rattle.operators.specs.declared.folding.Const.TheVariants as const
use Rattle.operators.specs.declared.folding.ConstFault.{ConstFault}
use Rattle.operators.specs.declared.folding.ConstFault.TheVariants.{Overflow, ZeroDivisor, NegativeShift, NotConstant}
use Rattle.operators.specs.Folding.{folded_one}
use Rattle.operators.specs.Operands.{Operand, constant, value, nil, type_of, const_of}
use Rattle.operators.specs.Operators.{joint_type, converts, worked_out, takes_operand, takes_both, is_division, is_shift}

-- a constant expression has no value, or none of its type: the divisor is the operand on the right
abbrev pub constant_fault : Option ValueType → Pos → Pos → Result Const ConstFault → Option Fault
constant_fault t pos right (Ok (const.Int z)) = held_fault t pos (Number z)
constant_fault t pos right (Ok (const.Bool b)) = held_fault t pos (Truth b)
constant_fault t pos right (Ok const.NoConst) = None
constant_fault t pos right (Err Overflow) = Some (fault ConstRange pos)
constant_fault t pos right (Err ZeroDivisor) = Some (fault ConstZeroDivisor right)
constant_fault t pos right (Err NegativeShift) = Some (fault Unfit pos)
constant_fault t pos right (Err NotConstant) = Some (fault Unfit pos)

-- a prefix on an operand of a type that it takes
abbrev pub fitting_prefix_fault : Pos → UnOp → Operand → Option Fault
fitting_prefix_fault pos op (constant f) = constant_fault f.value_type pos pos (folded_one op (const_of f.value))
fitting_prefix_fault pos op (value t x) = None
fitting_prefix_fault pos op nil = None

abbrev pub prefix_fault : Pos → UnOp → Option Operand → Option Fault
prefix_fault pos op None = None
prefix_fault pos op (Some x) = if takes_operand op (type_of x) then fitting_prefix_fault pos op x else Some (fault Unfit pos)

-- whether two operands are of one type, or neither has one
abbrev pub are_alike : Option ValueType → Option ValueType → Bool
are_alike (Some s) (Some t) = same_type s t
are_alike None None = true
are_alike s t = false

-- operands that an operator doesn't take: of two types, where the operator is no shift; or of a type on which it isn't defined
abbrev pub unfit_kind : BinOp → Option ValueType → Option ValueType → FaultKind
unfit_kind op s t = if is_shift op || are_alike s t then Unfit else Mismatch

-- a constant on the right of what is none: a divisor 0, a negative count, or what no int can hold
abbrev pub right_fault : Pos → Pos → BinOp → Constant → Option Fault
right_fault pos right op c =
    if is_division op && is_zero c then Some (fault ConstZeroDivisor right)
    else (if is_shift op && is_negative c then Some (fault Unfit pos) else constant_range_fault right c)

-- the one of two constants that the type of the other doesn't hold
abbrev pub conversion_fault : Pos → Pos → Fixed → Fixed → Option Fault
conversion_fault pos right a b = if is_held b.value_type a.value then Some (fault ConstRange right) else Some (fault ConstRange pos)

abbrev pub constants_fault : Pos → Pos → BinOp → Fixed → Fixed → Option Fault
constants_fault pos right op a b =
    if converts op a b then constant_fault (joint_type op a.value_type b.value_type) pos right (worked_out op a b) else conversion_fault pos right a b

-- two operands of types that an operator takes
abbrev pub fitting_fault : Pos → Pos → BinOp → Operand → Operand → Option Fault
fitting_fault pos right op (constant a) (constant b) = constants_fault pos right op a b
fitting_fault pos right op (constant a) (value t x) = constant_range_fault pos a.value
fitting_fault pos right op (value t x) (constant b) = right_fault pos right op b.value
fitting_fault pos right op x y = None

abbrev pub two_fault : Pos → Pos → BinOp → Operand → Operand → Option Fault
two_fault pos right op x y = if takes_both op (type_of x) (type_of y) then fitting_fault pos right op x y else Some (fault (unfit_kind op (type_of x) (type_of y)) pos)

-- a rule of an operator on two operands that give something
abbrev pub PairFails : Pos → Pos → BinOp → Operand → Operand → Fault → Type 0
PairFails pos right op x y f = IsFault (two_fault pos right op x y) f

-- an operator on what its operands give
abbrev pub pair_fault : Pos → Pos → BinOp → Option Operand → Option Operand → Option Fault
pair_fault pos right op (Some x) (Some y) = two_fault pos right op x y
pair_fault pos right op x y = None
