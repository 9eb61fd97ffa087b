-- An operator on operands gives something, or a rule of it fails, and never both.
use Rattle.std.proofs.Common.{◌≡◌, ℤ, Bool, true, false, cond, ◌⊎◌, inl, inr, Option, Some, None, Result, Ok, Err, refl}
use Rattle.std.specs.Prelude.{⊤, option_and_then, not, ◌&&◌, neg_ℤ}
use Rattle.std.specs.Option.{option_map}
use Rattle.std.proofs.lemmas.Bool.{false≢true}
use Rattle.base.specs.declared.pos.Pos.{Pos}
use Rattle.syntax.specs.declared.operator.BinOp.{BinOp}
use Rattle.syntax.specs.declared.operator.BinOp.TheVariants.{Arithmetic, Compare, LogicalAnd, LogicalOr}
use Rattle.syntax.specs.declared.operator.CompareOp.{CompareOp}
use Rattle.syntax.specs.declared.operator.CompareOp.TheVariants.{Equal, NotEqual, Less, LessEqual, Greater, GreaterEqual}
use Rattle.syntax.specs.declared.operator.UnOp.{UnOp}
use Rattle.syntax.specs.declared.operator.UnOp.TheVariants.{Plus, Negate, Complement, Not, Star, Address}
use Rattle.typed_syntax.specs.declared.operators.UnOp.{UnOp as TypedPrefix}
use Rattle.typed_syntax.specs.Syntax.{Ex}
use Rattle.typed_syntax.specs.Syntax as typed
use Rattle.typed_syntax.specs.Value.{int}
use Rattle.type_faults.specs.declared.fault.Fault.{Fault}
use Rattle.type_faults.specs.declared.fault.FaultKind.TheVariants.{ConstRange, Unfit, ConstZeroDivisor}
use Rattle.constants.specs.declared.constant.Constant.{Constant}
use Rattle.constants.specs.declared.constant.Constant.TheVariants.{Number, Truth}
use Rattle.base.specs.declared.value_type.ValueType.{ValueType}
use Rattle.base.specs.declared.value_type.ValueType.TheVariants.{Int, Bool as Boolean, Struct, Array, Pointer, Slice}
use Rattle.constants.specs.Constants.{constant_type, is_int, is_held, is_zero, is_negative}
use Rattle.type_faults.specs.Given.{allowed, both}
use Rattle.type_faults.specs.Faults.{fault, IsFault}
use Rattle.operators.specs.ConstantFaults.{constant_range_fault, held_fault}
use Rattle.type_faults.proofs.Decided.{Decided, further}
use Rattle.operators.specs.declared.folding.Const.{Const}
use Rattle.operators.specs.declared.folding.Const.TheVariants as const
use Rattle.operators.specs.declared.folding.ConstFault.{ConstFault}
use Rattle.operators.specs.declared.folding.ConstFault.TheVariants.{Overflow, ZeroDivisor, NegativeShift, NotConstant}
use Rattle.operators.specs.Folding.{exact, in_range_or_fault, kept, as_constant, compared_bools, folded, folded_one}
use Rattle.operators.specs.Operands.{Operand, constant, value, nil, constant_value, const_of, of_type, constant_of}
use Rattle.operators.specs.Operators.{joint_type, converts, worked_out, takes_one, prefix_of, prefixed, takes, is_division, is_shift, stands_right, both_values, combined}
use Rattle.operators.specs.Faults.{constant_fault, prefix_fault, unfit_kind, right_fault, two_fault, pair_fault}

-- ---- constants

-- a constant expression has a value, or a fault
abbrev IsConstant : Result Const ConstFault → Type 0
IsConstant (Ok const.NoConst) = ⊥
IsConstant other = ⊤

held_decided : (at : Pos) (t : Option ValueType) (c : Constant) → Decided (of_type t c) (IsFault (held_fault t at c))
held_decided at t c = by (is_held t c)
  where
    by : (b : Bool) → Decided (allowed b (Some (constant (record { value_type = t; value = c })))) (IsFault (cond b None (Some (fault ConstRange at))))
    by true = λ f h. h
    by false = (_, refl)

constant_decided : (t : Option ValueType) (at right : Pos) (r : Result Const ConstFault) → IsConstant r → Decided (constant_of t r) (IsFault (constant_fault t at right r))
constant_decided t at right (Ok (const.Int z)) is = held_decided at t (Number z)
constant_decided t at right (Ok (const.Bool b)) is = held_decided at t (Truth b)
constant_decided t at right (Ok const.NoConst) is = absurd is
constant_decided t at right (Err Overflow) is = (_, refl)
constant_decided t at right (Err ZeroDivisor) is = (_, refl)
constant_decided t at right (Err NegativeShift) is = (_, refl)
constant_decided t at right (Err NotConstant) is = (_, refl)

number_is : (r : Result ℤ ConstFault) → IsConstant (as_constant r)
number_is (Ok z) = tt
number_is (Err e) = tt

prefix_is : (op : UnOp) (c : Constant) → IsConstant (folded_one op (const_of c))
prefix_is Plus (Number z) = tt
prefix_is Negate (Number z) = number_is (in_range_or_fault (neg_ℤ z))
prefix_is Complement (Number z) = tt
prefix_is Not (Number z) = tt
prefix_is Star (Number z) = tt
prefix_is Address (Number z) = tt
prefix_is Plus (Truth b) = tt
prefix_is Negate (Truth b) = tt
prefix_is Complement (Truth b) = tt
prefix_is Not (Truth b) = tt
prefix_is Star (Truth b) = tt
prefix_is Address (Truth b) = tt

bools_is : (op : CompareOp) (p q : Bool) → IsConstant (compared_bools op p q)
bools_is Equal p q = tt
bools_is NotEqual p q = tt
bools_is Less p q = tt
bools_is LessEqual p q = tt
bools_is Greater p q = tt
bools_is GreaterEqual p q = tt

folded_is : (op : BinOp) (c d : Constant) → IsConstant (folded op (const_of c) (const_of d))
folded_is (Arithmetic op) (Number x) (Number y) = number_is (kept (exact op x y))
folded_is (Arithmetic op) (Number x) (Truth q) = tt
folded_is (Arithmetic op) (Truth p) (Number y) = tt
folded_is (Arithmetic op) (Truth p) (Truth q) = tt
folded_is (Compare op) (Number x) (Number y) = tt
folded_is (Compare op) (Number x) (Truth q) = tt
folded_is (Compare op) (Truth p) (Number y) = tt
folded_is (Compare op) (Truth p) (Truth q) = bools_is op p q
folded_is LogicalAnd (Number x) (Number y) = tt
folded_is LogicalAnd (Number x) (Truth q) = tt
folded_is LogicalAnd (Truth p) (Number y) = tt
folded_is LogicalAnd (Truth p) (Truth q) = tt
folded_is LogicalOr (Number x) (Number y) = tt
folded_is LogicalOr (Number x) (Truth q) = tt
folded_is LogicalOr (Truth p) (Number y) = tt
folded_is LogicalOr (Truth p) (Truth q) = tt

-- what a prefix doesn't take has a fault of its own
prefix_taken : (own : Fault) (b : Bool) (o : Option Operand) (r : Option Fault) → Decided o (IsFault r) → Decided (allowed b o) (IsFault (cond b r (Some own)))
prefix_taken own true o r d = d
prefix_taken own false o r d = (own, refl)

-- what an operator doesn't take has a fault of its own, and so has a constant that the other's type doesn't hold
pair_taken : (own first second : Fault) (b c h : Bool) (o : Option Operand) (r : Option Fault) → Decided o (IsFault r) → Decided (allowed (b && c) o) (IsFault (cond b (cond c r (cond h (Some second) (Some first))) (Some own)))
pair_taken own first second true true h o r d = d
pair_taken own first second true false true o r d = (second, refl)
pair_taken own first second true false false o r d = (first, refl)
pair_taken own first second false c h o r d = (own, refl)

-- ---- operators

value_prefix_decided : (own : Fault) (b : Bool) (o : Option TypedPrefix) (t : ValueType) (x : Ex) → (o ≡ None → b ≡ false) → Decided (allowed b (option_map (λ g. value t (typed.unary g x)) o)) (IsFault (cond b None (Some own)))
value_prefix_decided own false o t x has = (own, refl)
value_prefix_decided own true (Some g) t x has = λ f h. h
value_prefix_decided own true None t x has = absurd (false≢true (Rattle.std.proofs.Common.sym (has refl)))

no_prefix : (op : UnOp) (t : ValueType) → prefix_of op ≡ None → takes_one op t ≡ false
no_prefix Plus t is = cc is
no_prefix Negate t is = cc is
no_prefix Complement t is = cc is
no_prefix Not t is = cc is
no_prefix Star Int is = refl
no_prefix Star Boolean is = refl
no_prefix Star (Struct k) is = refl
no_prefix Star (Array n e) is = refl
no_prefix Star (Pointer e) is = refl
no_prefix Star (Slice e) is = refl
no_prefix Address Int is = refl
no_prefix Address Boolean is = refl
no_prefix Address (Struct k) is = refl
no_prefix Address (Array n e) is = refl
no_prefix Address (Pointer e) is = refl
no_prefix Address (Slice e) is = refl

pub prefix_decided : (at : Pos) (op : UnOp) (x : Operand) → Decided (prefixed op x) (IsFault (prefix_fault at op (Some x)))
prefix_decided at op (value t x) = value_prefix_decided (fault Unfit at) (takes_one op t) (prefix_of op) t x (no_prefix op t)
prefix_decided at op (constant f) =
    prefix_taken (fault Unfit at) (takes_one op (constant_type f.value_type f.value)) (constant_of f.value_type (folded_one op (const_of f.value))) (constant_fault f.value_type at at (folded_one op (const_of f.value)))
    (constant_decided f.value_type at at (folded_one op (const_of f.value)) (prefix_is op f.value))
prefix_decided at op nil = (fault Unfit at, refl)

-- two values, where an operator takes them
left_decided : (own at : Pos) (op : BinOp) (c : Constant) (x : Ex) → Decided (both_values own op (constant_value c) (Some x)) (IsFault (constant_range_fault at c))
left_decided own at op (Truth b) x = λ f h. h
left_decided own at op (Number z) x = by (is_int z)
  where
    by : (b : Bool) → Decided (both_values own op (cond b (Some (typed.constant (int z))) None) (Some x)) (IsFault (cond b None (Some (fault ConstRange at))))
    by true = λ f h. h
    by false = (_, refl)

right_value_decided : (at right : Pos) (op : BinOp) (x : Ex) (c : Constant) → Decided (both_values at op (Some x) (constant_value c)) (IsFault (constant_range_fault right c))
right_value_decided at right op x (Truth b) = λ f h. h
right_value_decided at right op x (Number z) = by (is_int z)
  where
    by : (b : Bool) → Decided (both_values at op (Some x) (cond b (Some (typed.constant (int z))) None)) (IsFault (cond b None (Some (fault ConstRange right))))
    by true = λ f h. h
    by false = (_, refl)

right_decided : (own1 own2 : Fault) (z s : Bool) (o : Option Operand) (r : Option Fault) → Decided o (IsFault r)
    → Decided (allowed (not z && not s) o) (IsFault (cond z (Some own1) (cond s (Some own2) r)))
right_decided own1 own2 true s o r d = (own1, refl)
right_decided own1 own2 false true o r d = (own2, refl)
right_decided own1 own2 false false o r d = d

-- what an operator doesn't take has a fault of its own
where_taken : (own : Fault) (b c : Bool) (o : Option Operand) (r : Option Fault) → Decided (allowed c o) (IsFault r) → Decided (allowed (b && c) o) (IsFault (cond b r (Some own)))
where_taken own true c o r d = d
where_taken own false c o r d = (own, refl)

-- the operator stands at a place of its own; its rules fail at its operands
two_decided : (own at right : Pos) (op : BinOp) (x y : Operand) → Decided (combined own op x y) (IsFault (two_fault at right op x y))
two_decided own at right op (constant a) (constant b) =
    let j = joint_type op a.value_type b.value_type in
    pair_taken (fault (unfit_kind op (Some (constant_type a.value_type a.value)) (Some (constant_type b.value_type b.value))) at) (fault ConstRange at) (fault ConstRange right)
    (takes op (constant_type a.value_type a.value) (constant_type b.value_type b.value)) (converts op a b) (is_held b.value_type a.value) (constant_of j (worked_out op a b)) (constant_fault j at right (worked_out op a b))
    (constant_decided j at right (worked_out op a b) (folded_is op a.value b.value))
two_decided own at right op (constant a) (value t x) =
    let c = a.value in
    let u = constant_type a.value_type c in
    where_taken (fault (unfit_kind op (Some u) (Some t)) at) (takes op u t) true (both_values own op (constant_value c) (Some x)) (constant_range_fault at c) (left_decided own at op c x)
two_decided own at right op (value t x) (constant b) =
    let d = b.value in
    let u = constant_type b.value_type d in
    where_taken (fault (unfit_kind op (Some t) (Some u)) at) (takes op t u) (stands_right op d) (both_values own op (Some x) (constant_value d)) (right_fault at right op d)
    (right_decided (fault ConstZeroDivisor right) (fault Unfit at) (is_division op && is_zero d) (is_shift op && is_negative d) (both_values own op (Some x) (constant_value d)) (constant_range_fault right d)
    (right_value_decided own right op x d))
two_decided own at right op (value s x) (value t y) =
    where_taken (fault (unfit_kind op (Some s) (Some t)) at) (takes op s t) true (both_values own op (Some x) (Some y)) None (λ f h. h)
two_decided own at right op (constant a) nil = (_, refl)
two_decided own at right op (value s x) nil = (_, refl)
two_decided own at right op nil y = (_, refl)

pub one_decided : {A : Type 0} (k : Operand → Option A) (R : Option Operand → Option Fault) (o : Option Operand) (P : Fault → Type 0) → Decided o P → ((x : Operand) → Decided (k x) (IsFault (R (Some x))))
    → Decided (option_and_then k o) (λ f. P f ⊎ IsFault (R o) f)
one_decided k R None P d r = (d.0, inl d.1)
one_decided k R (Some x) P d r = further P (IsFault (R (Some x))) (k x) d (r x)

pub pair_decided : (own at right : Pos) (op : BinOp) (a b : Option Operand) (P Q : Fault → Type 0) → Decided a P → Decided b Q
    → Decided (both (combined own op) a b) (λ f. (P f ⊎ Q f) ⊎ IsFault (pair_fault at right op a b) f)
pair_decided own at right op None b P Q p q = (p.0, inl (inl p.1))
pair_decided own at right op (Some x) None P Q p q = (q.0, inl (inr q.1))
pair_decided own at right op (Some x) (Some y) P Q p q =
    further (λ f. P f ⊎ Q f) (IsFault (two_fault at right op x y)) (combined own op x y) (λ f h. elim h [ inl u ↦ p f u | inr u ↦ q f u ]) (two_decided own at right op x y)
