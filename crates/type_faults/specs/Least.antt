-- The fault that is reported: the least of those that there are, by offset and then by the number of the kind.
use Rattle.std.specs.Prelude.{◌≡◌, ℕ, ◌<◌, ◌≤◌, ◌⊎◌, Option, Some, None, nat_lt, nat_le, ◌==◌, ◌||◌, ◌&&◌, if◌then◌else◌}
use Rattle.type_faults.specs.declared.fault.Fault.{Fault}
use Rattle.type_faults.specs.declared.fault.FaultKind.{FaultKind}
use Rattle.type_faults.specs.declared.fault.FaultKind.TheVariants as kind

abbrev pub kind_number : FaultKind → ℕ
kind_number kind.Unknown = 1
kind_number kind.Redeclared = 2
kind_number kind.NothingNew = 3
kind_number kind.Mismatch = 4
kind_number kind.NotAssignable = 6
kind_number kind.NotCallable = 7
kind_number kind.WrongCount = 8
kind_number kind.ResultCount = 9
kind_number kind.NotUsedValue = 10
kind_number kind.MissingReturn = 11
kind_number kind.ConstRange = 12
kind_number kind.ConstIndex = 13
kind_number kind.Unfit = 14
kind_number kind.SelfReference = 15
kind_number kind.ZeroSize = 16
kind_number kind.BreakOutside = 17
kind_number kind.NoMain = 18
kind_number kind.BadExternal = 19
kind_number kind.OutOfProfile = 20
kind_number kind.TooLarge = 21
kind_number kind.ConstZeroDivisor = 22

-- f is reported before g, or stands at the same place with the same number
abbrev pub AtMost : Fault → Fault → Type 0
AtMost f g = (f.pos.offset < g.pos.offset) ⊎ ((f.pos.offset ≡ g.pos.offset) × (kind_number f.kind ≤ kind_number g.kind))

abbrev pub IsLeast : (Fault → Type 0) → Option Fault → Type 0
IsLeast P None = (f : Fault) → P f → ⊥
IsLeast P (Some f) = P f × ((g : Fault) → P g → AtMost f g)

abbrev pub lesser : Option Fault → Option Fault → Option Fault
lesser None b = b
lesser (Some f) None = Some f
lesser (Some f) (Some g) =
    if nat_lt f.pos.offset g.pos.offset || ((f.pos.offset == g.pos.offset) && nat_le (kind_number f.kind) (kind_number g.kind)) then Some f else Some g

-- the lesser of one fault and the least of some
abbrev pub IsLesserWith : (Fault → Type 0) → Option Fault → Option Fault → Type 0
IsLesserWith P other f = (own : Option Fault) × IsLeast P own × (f ≡ lesser other own)
