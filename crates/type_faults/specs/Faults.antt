-- The fault of a rule.
use Rattle.std.specs.Prelude.{◌≡◌, Option, Some, None}
use Rattle.base.specs.declared.pos.Pos.{Pos}
use Rattle.type_faults.specs.declared.fault.Fault.{Fault}
use Rattle.type_faults.specs.declared.fault.FaultKind.{FaultKind}
use Rattle.type_faults.specs.declared.fault.FaultKind.TheVariants.{OutOfProfile}

abbrev pub fault : FaultKind → Pos → Fault
fault kind pos = record { kind = kind; pos = pos }

-- a rule that has this fault, or none
abbrev pub IsFault : Option Fault → Fault → Type 0
IsFault None f = ⊥
IsFault (Some g) f = f ≡ g

-- a form that is left out of the profile
abbrev pub FormFails : Pos → Fault → Type 0
FormFails pos f = f ≡ fault OutOfProfile pos
