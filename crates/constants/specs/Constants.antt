-- Constants with their types (Go specification, "Constants", "Representability").
use Rattle.std.specs.Prelude.{◌-◌, ◌^◌, ℤ, pos, negsuc, Bool, true, false, ◌&&◌, Option, Some, None, int_le, int_lt}
use Rattle.constants.specs.declared.constant.Constant.{Constant}
use Rattle.constants.specs.declared.constant.Constant.TheVariants.{Number, Truth}
use Rattle.constants.specs.declared.constant.Fixed.{Fixed}
use Rattle.base.specs.declared.value_type.ValueType.{ValueType}
use Rattle.base.specs.declared.value_type.ValueType.TheVariants.{Int, Bool as Boolean}

-- the type of a constant: its own, or else that of numbers or of truth values
abbrev pub constant_type : Option ValueType → Constant → ValueType
constant_type (Some t) c = t
constant_type None (Number z) = Int
constant_type None (Truth b) = Boolean

-- from -2^63 to 2^63 - 1
abbrev pub is_int : ℤ → Bool
is_int z = int_le (negsuc (2 ^ 63 - 1)) z && int_le z (pos (2 ^ 63 - 1))

-- a constant that has no type
abbrev pub untyped : Constant → Fixed
untyped c = record { value_type = None; value = c }

-- whether a type holds a constant (Go specification, "Representability")
abbrev pub holds : ValueType → Constant → Bool
holds Int (Number z) = is_int z
holds Boolean (Truth b) = true
holds t c = false

-- the same, where there is a type
abbrev pub is_held : Option ValueType → Constant → Bool
is_held None c = true
is_held (Some t) c = holds t c

abbrev pub is_zero : Constant → Bool
is_zero (Number z) = int_le z (pos 0) && int_le (pos 0) z
is_zero (Truth b) = false

abbrev pub is_negative : Constant → Bool
is_negative (Number z) = int_lt z (pos 0)
is_negative (Truth b) = false
