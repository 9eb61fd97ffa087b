-- Constants that their places don't hold.
use Rattle.std.specs.Prelude.{Option, Some, None, if◌then◌else◌}
use Rattle.base.specs.declared.pos.Pos.{Pos}
use Rattle.base.specs.declared.value_type.ValueType.{ValueType}
use Rattle.constants.specs.Constants.{is_int, is_held}
use Rattle.constants.specs.declared.constant.Constant.{Constant}
use Rattle.constants.specs.declared.constant.Constant.TheVariants.{Number, Truth}
use Rattle.type_faults.specs.Faults.{fault}
use Rattle.type_faults.specs.declared.fault.Fault.{Fault}
use Rattle.type_faults.specs.declared.fault.FaultKind.TheVariants.{ConstRange}

-- an int can't hold a constant
abbrev pub constant_range_fault : Pos → Constant → Option Fault
constant_range_fault pos (Number z) = if is_int z then None else Some (fault ConstRange pos)
constant_range_fault pos (Truth b) = None

-- a type doesn't hold a constant
abbrev pub held_fault : Option ValueType → Pos → Constant → Option Fault
held_fault t pos c = if is_held t c then None else Some (fault ConstRange pos)
