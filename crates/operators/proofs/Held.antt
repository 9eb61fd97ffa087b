-- Constants that operands and operators give are held by their types.
use Rattle.std.proofs.Common.{◌≡◌, Bool, true, false, Option, Some, None, Result, Ok, Err, refl, subst}
use Rattle.std.specs.Prelude.{◌&&◌}
use Rattle.std.specs.Option.{option_map}
use Rattle.base.specs.declared.pos.Pos.{Pos}
use Rattle.syntax.specs.declared.operator.BinOp.{BinOp}
use Rattle.syntax.specs.declared.operator.UnOp.{UnOp}
use Rattle.typed_syntax.specs.declared.operators.UnOp.{UnOp as TypedPrefix}
use Rattle.typed_syntax.specs.Syntax.{Ex}
use Rattle.typed_syntax.specs.Syntax as typed
use Rattle.constants.specs.declared.constant.Constant.{Constant}
use Rattle.constants.specs.declared.constant.Constant.TheVariants.{Number, Truth}
use Rattle.constants.specs.declared.constant.Fixed.{Fixed}
use Rattle.base.specs.declared.value_type.ValueType.{ValueType}
use Rattle.base.specs.declared.value_type.ValueType.TheVariants.{Int, Bool as Boolean, Struct, Array, Pointer, Slice}
use Rattle.constants.specs.Constants.{constant_type, is_held}
use Rattle.type_faults.specs.Given.{allowed}
use Rattle.type_faults.proofs.Options.{none_some, same_some}
use Rattle.operators.specs.declared.folding.Const.{Const}
use Rattle.operators.specs.declared.folding.Const.TheVariants as const
use Rattle.operators.specs.declared.folding.ConstFault.{ConstFault}
use Rattle.operators.specs.Folding.{folded_one}
use Rattle.operators.specs.Operands.{Operand, constant, value, nil, const_of, of_type, constant_of, type_of, as_value}
use Rattle.operators.specs.Operators.{takes_one, prefix_of, prefixed, takes, takes_both, both_values, value_pair, right_allowed, joint_type, converts, worked_out, combined}

abbrev pub IsHeld : Operand → Type 0
IsHeld (constant f) = is_held f.value_type f.value ≡ true
IsHeld (value t x) = Unit {0}
IsHeld nil = Unit {0}

-- a type that holds a constant is the one that the constant has by itself
pub held_type : (t : Option ValueType) (c : Constant) → is_held t c ≡ true → constant_type t c ≡ constant_type None c
held_type None c is = refl
held_type (Some Int) (Number z) is = refl
held_type (Some Boolean) (Truth b) is = refl
held_type (Some Int) (Truth b) is = cc is
held_type (Some Boolean) (Number z) is = cc is
held_type (Some (Struct k)) c is = cc is
held_type (Some (Array n e)) c is = cc is
held_type (Some (Pointer e)) c is = cc is
held_type (Some (Slice e)) c is = cc is

module _ (P : Operand → Type 0) (known : (f : Fixed) → is_held f.value_type f.value ≡ true → P (constant f)) where
  of_type_is : (t : Option ValueType) (c : Constant) (x : Operand) → of_type t c ≡ Some x → P x
  of_type_is t c x = by (is_held t c) refl
    where
      by : (b : Bool) → is_held t c ≡ b → allowed b (Some (constant (record { value_type = t; value = c }))) ≡ Some x → P x
      by true h is = subst P (same_some is) (known (record { value_type = t; value = c }) h)
      by false h is = absurd (none_some is)

  -- what a constant expression gives is held by its type
  pub constant_is : (t : Option ValueType) (r : Result Const ConstFault) (x : Operand) → constant_of t r ≡ Some x → P x
  constant_is t (Ok (const.Int z)) x is = of_type_is t (Number z) x is
  constant_is t (Ok (const.Bool b)) x is = of_type_is t (Truth b) x is
  constant_is t (Ok const.NoConst) x is = absurd (none_some is)
  constant_is t (Err e) x is = absurd (none_some is)

constant_held : (t : Option ValueType) (r : Result Const ConstFault) (x : Operand) → constant_of t r ≡ Some x → IsHeld x
constant_held t r x is = constant_is IsHeld (λ f h. h) t r x is

allowed_held : (b : Bool) (o : Option Operand) (x : Operand) → ((y : Operand) → o ≡ Some y → IsHeld y) → allowed b o ≡ Some x → IsHeld x
allowed_held true o x held is = held x is
allowed_held false o x held is = absurd (none_some is)

pub prefixed_held : (op : UnOp) (x y : Operand) → prefixed op x ≡ Some y → IsHeld y
prefixed_held op (constant f) y is =
    allowed_held (takes_one op (constant_type f.value_type f.value)) (constant_of f.value_type (folded_one op (const_of f.value))) y (λ z e. constant_held f.value_type (folded_one op (const_of f.value)) z e) is
prefixed_held op (value t x) y is = allowed_held (takes_one op t) (option_map (λ g. value t (typed.unary g x)) (prefix_of op)) y (λ z e. by (prefix_of op) z e) is
  where
    by : (o : Option TypedPrefix) (z : Operand) → option_map (λ g. value t (typed.unary g x)) o ≡ Some z → IsHeld z
    by None z e = absurd (none_some e)
    by (Some g) z e = subst IsHeld (same_some e) tt
prefixed_held op nil y is = absurd (none_some is)

both_held : (at : Pos) (op : BinOp) (a b : Option Ex) (z : Operand) → both_values at op a b ≡ Some z → IsHeld z
both_held at op None b z is = absurd (none_some is)
both_held at op (Some x) None z is = absurd (none_some is)
both_held at op (Some x) (Some y) z is = subst IsHeld (same_some is) tt

value_pair_held : (at : Pos) (op : BinOp) (x y z : Operand) → value_pair at op x y ≡ Some z → IsHeld z
value_pair_held at op x y z is =
    allowed_held (takes_both op (type_of x) (type_of y) && right_allowed op y) (both_values at op (as_value x) (as_value y)) z (λ w e. both_held at op (as_value x) (as_value y) w e) is

pub pair_held : (at : Pos) (op : BinOp) (x y z : Operand) → combined at op x y ≡ Some z → IsHeld z
pair_held at op (constant a) (constant b) z is =
    let j = joint_type op a.value_type b.value_type in
    allowed_held (takes op (constant_type a.value_type a.value) (constant_type b.value_type b.value) && converts op a b) (constant_of j (worked_out op a b)) z (λ w e. constant_held j (worked_out op a b) w e) is
pair_held at op (constant a) (value t y) z is = value_pair_held at op (constant a) (value t y) z is
pair_held at op (constant a) nil z is = value_pair_held at op (constant a) nil z is
pair_held at op (value s x) y z is = value_pair_held at op (value s x) y z is
pair_held at op nil y z is = value_pair_held at op nil y z is
