-- A rule that fails where something holds.
use Rattle.std.specs.Prelude.{Bool, Option, Some, None, if◌then◌else◌}
use Rattle.type_faults.specs.declared.fault.Fault.{Fault}

-- the fault of a rule that fails where this holds
abbrev pub fault_where : Bool → Fault → Option Fault
fault_where b own = if b then Some own else None
