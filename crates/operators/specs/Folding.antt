-- Untyped constants: exact whole numbers within 128 bits, and bools (Go specification, "Constant expressions").
use Rattle.std.specs.Prelude.{ℕ, zero, suc, ℤ, pos, negsuc, ◌-◌, ◌^◌, ◌+ℤ◌, ◌-ℤ◌, ◌*ℤ◌, neg_ℤ, int_div, int_rem, int_le, int_lt, Bool, not, ◌&&◌, ◌||◌, if◌then◌else◌, Result, Ok, Err}
use Rattle.std.specs.Int.{w128, int_bit_and, int_bit_or, int_bit_xor, int_shr}
use Rattle.syntax.specs.declared.operator.ArithmeticOp.{ArithmeticOp}
use Rattle.syntax.specs.declared.operator.ArithmeticOp.TheVariants.{Add, Sub, Mul, Div, Rem, And, Or, Xor, AndNot, ShiftLeft, ShiftRight}
use Rattle.syntax.specs.declared.operator.BinOp.{BinOp}
use Rattle.syntax.specs.declared.operator.BinOp.TheVariants.{Arithmetic, Compare, LogicalAnd, LogicalOr}
use Rattle.syntax.specs.declared.operator.CompareOp.{CompareOp}
use Rattle.syntax.specs.declared.operator.CompareOp.TheVariants.{Equal, NotEqual, Less, LessEqual, Greater, GreaterEqual}
use Rattle.syntax.specs.declared.operator.UnOp.{UnOp}
use Rattle.syntax.specs.declared.operator.UnOp.TheVariants.{Plus, Negate, Not, Complement}
use Rattle.operators.specs.declared.folding.Const.{Const}
use Rattle.operators.specs.declared.folding.Const.TheVariants as const
use Rattle.operators.specs.declared.folding.ConstFault.{ConstFault}
use Rattle.operators.specs.declared.folding.ConstFault.TheVariants.{Overflow, ZeroDivisor, NegativeShift, NotConstant}

-- what is divided by a number
abbrev pub divided_by : ℤ → ℤ → Result ℤ ConstFault
divided_by (pos zero) z = Err ZeroDivisor
divided_by (pos (suc n)) z = Ok z
divided_by (negsuc n) z = Ok z

-- a number times 2 ^ n
abbrev pub shifted_left : ℤ → ℤ → Result ℤ ConstFault
shifted_left x (pos n) = Ok (x *ℤ pos (2 ^ n))
shifted_left x (negsuc n) = Err NegativeShift

-- a number over 2 ^ n, rounded down
abbrev pub shifted_right : ℤ → ℤ → Result ℤ ConstFault
shifted_right x (pos n) = Ok (int_shr x n)
shifted_right x (negsuc n) = Err NegativeShift

-- every bit of a number turned over: -x - 1
abbrev pub complement : ℤ → ℤ
complement x = negsuc 0 -ℤ x

-- the exact result of an operator on two whole numbers. A quotient is rounded towards zero, and its remainder has the sign of the number
-- that is divided. Bits are those of two's complement.
abbrev pub exact : ArithmeticOp → ℤ → ℤ → Result ℤ ConstFault
exact Add x y = Ok (x +ℤ y)
exact Sub x y = Ok (x -ℤ y)
exact Mul x y = Ok (x *ℤ y)
exact Div x y = divided_by y (int_div x y)
exact Rem x y = divided_by y (int_rem x y)
exact And x y = Ok (int_bit_and w128 x y)
exact Or x y = Ok (int_bit_or w128 x y)
exact Xor x y = Ok (int_bit_xor w128 x y)
exact AndNot x y = Ok (int_bit_and w128 x (complement y))
exact ShiftLeft x y = shifted_left x y
exact ShiftRight x y = shifted_right x y

-- from -2^127 to 2^127 - 1
abbrev pub in_range : ℤ → Bool
in_range z = int_le (negsuc (2 ^ 127 - 1)) z && int_le z (pos (2 ^ 127 - 1))

abbrev pub in_range_or_fault : ℤ → Result ℤ ConstFault
in_range_or_fault z = if in_range z then Ok z else Err Overflow

-- an exact result, which is refused where it is out of range
abbrev pub kept : Result ℤ ConstFault → Result ℤ ConstFault
kept (Ok z) = in_range_or_fault z
kept (Err e) = Err e

abbrev pub as_constant : Result ℤ ConstFault → Result Const ConstFault
as_constant (Ok z) = Ok (const.Int z)
as_constant (Err e) = Err e

-- whether a comparison of two numbers holds
abbrev pub compared : CompareOp → ℤ → ℤ → Bool
compared Equal x y = int_le x y && int_le y x
compared NotEqual x y = int_lt x y || int_lt y x
compared Less x y = int_lt x y
compared LessEqual x y = int_le x y
compared Greater x y = int_lt y x
compared GreaterEqual x y = int_le y x

-- bools are told apart, and have no order
abbrev pub compared_bools : CompareOp → Bool → Bool → Result Const ConstFault
compared_bools Equal p q = Ok (const.Bool (if p then q else not q))
compared_bools NotEqual p q = Ok (const.Bool (if p then not q else q))
compared_bools op p q = Err NotConstant

-- the exact result of an operator as a constant, where it takes operands of these kinds
abbrev pub folded : BinOp → Const → Const → Result Const ConstFault
folded (Arithmetic op) (const.Int x) (const.Int y) = as_constant (kept (exact op x y))
folded (Compare op) (const.Int x) (const.Int y) = Ok (const.Bool (compared op x y))
folded (Compare op) (const.Bool p) (const.Bool q) = compared_bools op p q
folded LogicalAnd (const.Bool p) (const.Bool q) = Ok (const.Bool (p && q))
folded LogicalOr (const.Bool p) (const.Bool q) = Ok (const.Bool (p || q))
folded op a b = Err NotConstant

abbrev pub folded_one : UnOp → Const → Result Const ConstFault
folded_one Plus (const.Int x) = Ok (const.Int x)
folded_one Negate (const.Int x) = as_constant (in_range_or_fault (neg_ℤ x))
folded_one Complement (const.Int x) = Ok (const.Int (complement x))
folded_one Not (const.Bool p) = Ok (const.Bool (not p))
folded_one op a = Err NotConstant

-- the number of a fault
abbrev pub fault_number : ConstFault → ℕ
fault_number Overflow = 1
fault_number ZeroDivisor = 2
fault_number NegativeShift = 3
fault_number NotConstant = 4
