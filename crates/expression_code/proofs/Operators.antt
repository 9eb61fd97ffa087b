-- The instruction of an operator, by the words of its operands.
use Rattle.std.proofs.Common.{◌≡◌, ◌≢◌, ℕ, zero, suc, refl}
use Rattle.isa.specs.declared.instr.Sameness.TheVariants as Wanted
use Rattle.isa.specs.declared.instr.Instr.TheVariants.{Bin, Same}
use Rattle.typed_syntax.specs.declared.operators.BinOp.{BinOp}
use Rattle.typed_syntax.specs.declared.operators.BinOp.TheVariants.{Add, Sub, Mul, Div, Rem, And, Or, Xor, AndNot, ShiftLeft, ShiftRight, Equal, NotEqual, Less, LessEqual, Greater, GreaterEqual}
use Rattle.program_code.specs.Code.{operation, binary_code}

-- an operator on operands of one word, and of other numbers of words
pub binary_one : (op : BinOp) (a b : ℕ) → binary_code op 1 a b ≡ Bin (operation op) a a b
binary_one Add a b = refl
binary_one Sub a b = refl
binary_one Mul a b = refl
binary_one Div a b = refl
binary_one Rem a b = refl
binary_one And a b = refl
binary_one Or a b = refl
binary_one Xor a b = refl
binary_one AndNot a b = refl
binary_one ShiftLeft a b = refl
binary_one ShiftRight a b = refl
binary_one Equal a b = refl
binary_one NotEqual a b = refl
binary_one Less a b = refl
binary_one LessEqual a b = refl
binary_one Greater a b = refl
binary_one GreaterEqual a b = refl

pub same_many : (n a b : ℕ) → n ≢ 1 → binary_code Equal n a b ≡ Same Wanted.Equal a a b n
same_many zero a b other = refl
same_many (suc zero) a b other = absurd (other refl)
same_many (suc (suc n)) a b other = refl

pub differ_many : (n a b : ℕ) → n ≢ 1 → binary_code NotEqual n a b ≡ Same Wanted.Different a a b n
differ_many zero a b other = refl
differ_many (suc zero) a b other = absurd (other refl)
differ_many (suc (suc n)) a b other = refl

-- operators that do not compare for equality have operands of one word each
pub other_word : (op : BinOp) (n a b : ℕ) → op ≢ Equal → op ≢ NotEqual → binary_code op n a b ≡ Bin (operation op) a a b
other_word Equal n a b e f = absurd (e refl)
other_word NotEqual n a b e f = absurd (f refl)
other_word Add n a b e f = refl
other_word Sub n a b e f = refl
other_word Mul n a b e f = refl
other_word Div n a b e f = refl
other_word Rem n a b e f = refl
other_word And n a b e f = refl
other_word Or n a b e f = refl
other_word Xor n a b e f = refl
other_word AndNot n a b e f = refl
other_word ShiftLeft n a b e f = refl
other_word ShiftRight n a b e f = refl
other_word Less n a b e f = refl
other_word LessEqual n a b e f = refl
other_word Greater n a b e f = refl
other_word GreaterEqual n a b e f = refl
