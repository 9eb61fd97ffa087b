-- Operators on values, and on the words that they stand as.
use Rattle.std.proofs.lemmas.Bool.{true≢false}
use Rattle.std.proofs.Common.{◌≡◌, inl, inr, ℕ, zero, suc, ◌^◌, ◌<◌, ℤ, pos, negsuc, Bool, true, false, List, Result, Ok, Err, refl, sym, ap, ◌∙◌, subst, arith, FitsSigned}
use Rattle.std.specs.Prelude.{min, int_rem, int_lt, int_le, not}
use Rattle.std.specs.Ordering.{int_eq}
use Rattle.std.specs.Int.{w64, cast_signed, cast_unsigned, int_shl, int_shr, int_wrapping_div, int_wrapping_neg, int_bit_not, int_wrapping_add, int_wrapping_sub, int_wrapping_mul, int_bit_and, int_bit_or, int_bit_xor}
use Rattle.std.proofs.lemmas.Int.{to_z-of_z, of_z-to_z}
use lib.Signed.{mag_rem, mag_shr}
use borrow.Author.Differences.{fits_in, read_fits}
use Rattle.typed_syntax.specs.Value.{Value, int, bool, IsOf}
use Rattle.typed_syntax.specs.declared.operators.BinOp.{BinOp}
use Rattle.typed_syntax.specs.declared.operators.BinOp.TheVariants.{Add, Sub, Mul, Div, Rem, And, Or, Xor, AndNot, ShiftLeft, ShiftRight, Equal, NotEqual, Less, LessEqual, Greater, GreaterEqual}
use Rattle.typed_syntax.specs.declared.operators.UnOp.{UnOp}
use Rattle.typed_syntax.specs.declared.operators.UnOp.TheVariants.{Plus, Negate, Complement, Not}
use Rattle.typed_syntax.specs.Types.{TypeTree, PartTypes, ints, bools, struct_of, array_of, pointer_to, slice_of}
use Rattle.typed_syntax.specs.Form.{IsPlain, IsArithmetic, IsStep, TakesOne}
use Rattle.meaning.specs.Trace.{Fault}
use Rattle.meaning.specs.Operators.{divide, shift, of_ints, of_bools, binary_of, unary_of}
use Rattle.isa.specs.Bin.{bit_of, word_of, divided, shifted, of_numbers, bin_of, un_of}
use Rattle.isa.specs.declared.instr.BinFault.{BinFault}
use Rattle.isa.specs.declared.instr.UnOp.TheVariants as WordOne
use Rattle.machine.specs.Machine.{panic_of}
use Rattle.state_relation.specs.Alike.{same_fault}
use Rattle.program_code.specs.Code.{operation}
use Rattle.state_relation.proofs.Words.{Spells}
use Rattle.program_code.proofs.Wide.{takes_one}

-- what an operator gives, and what the machine's gives: a value of a type that stands as a word, or the same fault
abbrev pub Agree : TypeTree → Result Value Fault → Result ℕ BinFault → Type 0
Agree t (Ok v) (Ok word) = IsOf t v × Spells v word
Agree t (Err f) (Err g) = (strings : List (List ℕ)) → same_fault strings f (panic_of g)
Agree t a b = ⊥

read_small : (x : ℕ) → FitsSigned w64 (cast_signed w64 x)
read_small x = omega (arith, fits_in, read_fits w64 x)

-- a number's word has 64 bits
pub word_small : (z : ℤ) → FitsSigned w64 z → word_of z < 2 ^ 64
word_small (pos n) f = omega (arith, f.sfits)
word_small (negsuc n) f = omega arith

-- a number of 64 bits is its word's number
pub number_stands : (z : ℤ) → FitsSigned w64 z → Spells (int z) (word_of z)
number_stands z f = (to_z-of_z w64 z f, word_small z f)

signed_twice : (x : ℕ) → Spells (int (cast_signed w64 x)) (word_of (cast_signed w64 x))
signed_twice x = number_stands (cast_signed w64 x) (read_small x)

rem_small : (a d : ℤ) → FitsSigned w64 a → FitsSigned w64 (int_rem a d)
rem_small a d f = record { sfits = omega (arith, mag_rem a d, f.sfits) }

shr_small : (a : ℤ) (n : ℕ) → FitsSigned w64 a → FitsSigned w64 (int_shr a n)
shr_small a n f = record { sfits = omega (arith, mag_shr a (2 ^ n), f.sfits) }

-- words of 64 bits are those of one number where they are equal
pub signed_once : (x y : ℕ) → x < 2 ^ 64 → y < 2 ^ 64 → cast_signed w64 x ≡ cast_signed w64 y → x ≡ y
signed_once x y lx ly e = sym (of_z-to_z w64 x lx) ∙ ap (cast_unsigned w64) e ∙ of_z-to_z w64 y ly

-- numbers are no truth values
abbrev is_ints : TypeTree → Bool
is_ints ints = true
is_ints t = false

pub apart : ints ≡ bools → ⊥
apart e = true≢false (ap is_ints e)

pub number_of : (t : TypeTree) (z : ℤ) → t ≡ ints → IsOf t (int z)
number_of t z e = subst (λ u. IsOf u (int z)) (sym e) tt

pub truth_of : (t : TypeTree) (b : Bool) → t ≡ bools → IsOf t (bool b)
truth_of t b e = subst (λ u. IsOf u (bool b)) (sym e) tt

divides : (t : TypeTree) (f : ℤ → ℤ → ℤ) (a d : ℤ) → t ≡ ints → Spells (int (f a d)) (word_of (f a d)) → Agree t (divide f a d) (divided f a d)
divides t f a (pos zero) is e = λ strings. tt
divides t f a (pos (suc n)) is e = (number_of t (f a (pos (suc n))) is, e)
divides t f a (negsuc n) is e = (number_of t (f a (negsuc n)) is, e)

shifts : (t : TypeTree) (f : ℤ → ℕ → ℤ) (a d : ℤ) → t ≡ ints → ((n : ℕ) → Spells (int (f a n)) (word_of (f a n))) → Agree t (shift f a d) (shifted f a d)
shifts t f a (pos n) is e = (number_of t (f a (min n 64)) is, e (min n 64))
shifts t f a (negsuc n) is e = λ strings. refl

-- what an operator takes and gives where its operands are numbers or truth values
abbrev pub TakesPlain : BinOp → (operands result : TypeTree) → Type 0
TakesPlain Equal s t = IsPlain s × (t ≡ bools)
TakesPlain NotEqual s t = IsPlain s × (t ≡ bools)
TakesPlain Less s t = (s ≡ ints) × (t ≡ bools)
TakesPlain LessEqual s t = (s ≡ ints) × (t ≡ bools)
TakesPlain Greater s t = (s ≡ ints) × (t ≡ bools)
TakesPlain GreaterEqual s t = (s ≡ ints) × (t ≡ bools)
TakesPlain op s t = (s ≡ ints) × (t ≡ ints)

on_ints : (op : BinOp) (s t : TypeTree) (a d : ℤ) → TakesPlain op s t → FitsSigned w64 a → Agree t (of_ints op a d) (of_numbers (operation op) a d)
on_ints Add s t a d is f = (number_of t (int_wrapping_add w64 a d) is.1, signed_twice _)
on_ints Sub s t a d is f = (number_of t (int_wrapping_sub w64 a d) is.1, signed_twice _)
on_ints Mul s t a d is f = (number_of t (int_wrapping_mul w64 a d) is.1, signed_twice _)
on_ints Div s t a d is f = divides t (int_wrapping_div w64) a d is.1 (signed_twice _)
on_ints Rem s t a d is f = divides t int_rem a d is.1 (number_stands (int_rem a d) (rem_small a d f))
on_ints And s t a d is f = (number_of t (int_bit_and w64 a d) is.1, signed_twice _)
on_ints Or s t a d is f = (number_of t (int_bit_or w64 a d) is.1, signed_twice _)
on_ints Xor s t a d is f = (number_of t (int_bit_xor w64 a d) is.1, signed_twice _)
on_ints AndNot s t a d is f = (number_of t (int_bit_and w64 a (int_bit_not w64 d)) is.1, signed_twice _)
on_ints ShiftLeft s t a d is f = shifts t (int_shl w64) a d is.1 (λ n. signed_twice _)
on_ints ShiftRight s t a d is f = shifts t int_shr a d is.1 (λ n. number_stands (int_shr a n) (shr_small a n f))
on_ints Equal s t a d is f = (truth_of t (int_eq a d) is.1, refl)
on_ints NotEqual s t a d is f = (truth_of t (not (int_eq a d)) is.1, refl)
on_ints Less s t a d is f = (truth_of t (int_lt a d) is.1, refl)
on_ints LessEqual s t a d is f = (truth_of t (int_le a d) is.1, refl)
on_ints Greater s t a d is f = (truth_of t (int_lt d a) is.1, refl)
on_ints GreaterEqual s t a d is f = (truth_of t (int_le d a) is.1, refl)

on_bools : (op : BinOp) (s t : TypeTree) (a d : Bool) → TakesPlain op s t → s ≡ bools → Agree t (of_bools op a d) (bin_of (operation op) (bit_of a) (bit_of d))
on_bools Equal s t true true is e = (truth_of t true is.1, refl)
on_bools Equal s t true false is e = (truth_of t false is.1, refl)
on_bools Equal s t false true is e = (truth_of t false is.1, refl)
on_bools Equal s t false false is e = (truth_of t true is.1, refl)
on_bools NotEqual s t true true is e = (truth_of t false is.1, refl)
on_bools NotEqual s t true false is e = (truth_of t true is.1, refl)
on_bools NotEqual s t false true is e = (truth_of t true is.1, refl)
on_bools NotEqual s t false false is e = (truth_of t false is.1, refl)
on_bools Add s t a d is e = absurd (apart (sym is.0 ∙ e))
on_bools Sub s t a d is e = absurd (apart (sym is.0 ∙ e))
on_bools Mul s t a d is e = absurd (apart (sym is.0 ∙ e))
on_bools Div s t a d is e = absurd (apart (sym is.0 ∙ e))
on_bools Rem s t a d is e = absurd (apart (sym is.0 ∙ e))
on_bools And s t a d is e = absurd (apart (sym is.0 ∙ e))
on_bools Or s t a d is e = absurd (apart (sym is.0 ∙ e))
on_bools Xor s t a d is e = absurd (apart (sym is.0 ∙ e))
on_bools AndNot s t a d is e = absurd (apart (sym is.0 ∙ e))
on_bools ShiftLeft s t a d is e = absurd (apart (sym is.0 ∙ e))
on_bools ShiftRight s t a d is e = absurd (apart (sym is.0 ∙ e))
on_bools Less s t a d is e = absurd (apart (sym is.0 ∙ e))
on_bools LessEqual s t a d is e = absurd (apart (sym is.0 ∙ e))
on_bools Greater s t a d is e = absurd (apart (sym is.0 ∙ e))
on_bools GreaterEqual s t a d is e = absurd (apart (sym is.0 ∙ e))

abbrev is_plain : TypeTree → Bool
is_plain ints = true
is_plain bools = true
is_plain t = false

pub no_struct : (ts : PartTypes) → IsPlain (struct_of ts) → ⊥
no_struct ts (inl e) = true≢false (sym (ap is_plain e))
no_struct ts (inr e) = true≢false (sym (ap is_plain e))

pub no_array : (n : ℕ) (e : TypeTree) → IsPlain (array_of n e) → ⊥
no_array n t (inl e) = true≢false (sym (ap is_plain e))
no_array n t (inr e) = true≢false (sym (ap is_plain e))

pub no_pointer : (n : ℕ) → IsPlain (pointer_to n) → ⊥
no_pointer n (inl e) = true≢false (sym (ap is_plain e))
no_pointer n (inr e) = true≢false (sym (ap is_plain e))

pub no_slice : (n : ℕ) → IsPlain (slice_of n) → ⊥
no_slice n (inl e) = true≢false (sym (ap is_plain e))
no_slice n (inr e) = true≢false (sym (ap is_plain e))

-- a number or a truth value is spelled by one word
pub spelled_once : (t : TypeTree) (v : Value) (x y : ℕ) → IsPlain t → IsOf t v → Spells v x → Spells v y → x ≡ y
spelled_once ints (int a) x y plain is sx sy = signed_once x y sx.1 sy.1 (sx.0 ∙ sym sy.0)
spelled_once bools (bool b) x y plain is sx sy = sx ∙ sym sy
spelled_once ints v x y plain is sx sy = absurd is
spelled_once bools v x y plain is sx sy = absurd is
spelled_once (struct_of ts) v x y plain is sx sy = absurd (no_struct ts plain)
spelled_once (array_of n t) v x y plain is sx sy = absurd (no_array n t plain)
spelled_once (pointer_to n) v x y plain is sx sy = absurd (no_pointer n plain)
spelled_once (slice_of n) v x y plain is sx sy = absurd (no_slice n plain)

-- an operator of the source on numbers or truth values, and that of the machine on their words
pub agrees : (op : BinOp) (s t : TypeTree) (v u : Value) (x y : ℕ) → IsPlain s → TakesPlain op s t → IsOf s v → IsOf s u → Spells v x → Spells u y → Agree t (binary_of op v u) (bin_of (operation op) x y)
agrees op ints t (int a) (int d) x y plain takes is iu sv su =
    subst (λ z. Agree t (of_ints op a d) (of_numbers (operation op) z (cast_signed w64 y))) (sym sv.0)
    (subst (λ z. Agree t (of_ints op a d) (of_numbers (operation op) a z)) (sym su.0) (on_ints op ints t a d takes (subst (λ z. FitsSigned w64 z) sv.0 (read_small x))))
agrees op bools t (bool a) (bool d) x y plain takes is iu sv su =
    subst (λ z. Agree t (of_bools op a d) (bin_of (operation op) z y)) (sym sv) (subst (λ z. Agree t (of_bools op a d) (bin_of (operation op) (bit_of a) z)) (sym su) (on_bools op bools t a d takes refl))
agrees op ints t (int a) u x y plain takes is iu sv su = absurd iu
agrees op ints t v u x y plain takes is iu sv su = absurd is
agrees op bools t (bool a) u x y plain takes is iu sv su = absurd iu
agrees op bools t v u x y plain takes is iu sv su = absurd is
agrees op (struct_of ts) t v u x y plain takes is iu sv su = absurd (no_struct ts plain)
agrees op (array_of n e) t v u x y plain takes is iu sv su = absurd (no_array n e plain)
agrees op (pointer_to n) t v u x y plain takes is iu sv su = absurd (no_pointer n plain)
agrees op (slice_of n) t v u x y plain takes is iu sv su = absurd (no_slice n plain)

-- the word of an operator on one operand
abbrev pub unary_word : UnOp → ℕ → ℕ
unary_word Plus x = x
unary_word Negate x = un_of WordOne.Negate x
unary_word Complement x = un_of WordOne.Complement x
unary_word Not x = un_of WordOne.IsZero x

one_number : (op : UnOp) (a : ℤ) (x : ℕ) → TakesOne op ints → Spells (int a) x → IsOf ints (unary_of op (int a)) × Spells (unary_of op (int a)) (unary_word op x)
one_number Plus a x takes s = (tt, s)
one_number Negate a x takes s = (tt, subst (λ z. Spells (int (int_wrapping_neg w64 z)) (un_of WordOne.Negate x)) s.0 (signed_twice _))
one_number Complement a x takes s = (tt, subst (λ z. Spells (int (int_bit_not w64 z)) (un_of WordOne.Complement x)) s.0 (signed_twice _))
one_number Not a x takes s = absurd (apart takes)

one_truth : (op : UnOp) (b : Bool) (x : ℕ) → TakesOne op bools → Spells (bool b) x → IsOf bools (unary_of op (bool b)) × Spells (unary_of op (bool b)) (unary_word op x)
one_truth Not true x takes s = (tt, ap (un_of WordOne.IsZero) s)
one_truth Not false x takes s = (tt, ap (un_of WordOne.IsZero) s)
one_truth Plus b x takes s = absurd (apart (sym takes))
one_truth Negate b x takes s = absurd (apart (sym takes))
one_truth Complement b x takes s = absurd (apart (sym takes))

pub agrees_one : (op : UnOp) (t : TypeTree) (v : Value) (x : ℕ) → TakesOne op t → IsOf t v → Spells v x → IsOf t (unary_of op v) × Spells (unary_of op v) (unary_word op x)
agrees_one op ints (int a) x takes is s = one_number op a x takes s
agrees_one op ints v x takes is s = absurd is
agrees_one op bools (bool b) x takes is s = one_truth op b x takes s
agrees_one op bools v x takes is s = absurd is
agrees_one op (struct_of ts) v x takes is s = absurd (no_struct ts (takes_one op (struct_of ts) takes))
agrees_one op (array_of n t) v x takes is s = absurd (no_array n t (takes_one op (array_of n t) takes))
agrees_one op (pointer_to n) v x takes is s = absurd (no_pointer n (takes_one op (pointer_to n) takes))
agrees_one op (slice_of n) v x takes is s = absurd (no_slice n (takes_one op (slice_of n) takes))

-- the operators of assignments
pub arithmetic_takes : (op : BinOp) → IsArithmetic op → TakesPlain op ints ints
arithmetic_takes Add is = (refl, refl)
arithmetic_takes Sub is = (refl, refl)
arithmetic_takes Mul is = (refl, refl)
arithmetic_takes Div is = (refl, refl)
arithmetic_takes Rem is = (refl, refl)
arithmetic_takes And is = (refl, refl)
arithmetic_takes Or is = (refl, refl)
arithmetic_takes Xor is = (refl, refl)
arithmetic_takes AndNot is = (refl, refl)
arithmetic_takes ShiftLeft is = (refl, refl)
arithmetic_takes ShiftRight is = (refl, refl)
arithmetic_takes Equal is = absurd is
arithmetic_takes NotEqual is = absurd is
arithmetic_takes Less is = absurd is
arithmetic_takes LessEqual is = absurd is
arithmetic_takes Greater is = absurd is
arithmetic_takes GreaterEqual is = absurd is

pub step_takes : (op : BinOp) → IsStep op → TakesPlain op ints ints
step_takes op (inl e) = subst (λ o. TakesPlain o ints ints) (sym e) (refl, refl)
step_takes op (inr e) = subst (λ o. TakesPlain o ints ints) (sym e) (refl, refl)
