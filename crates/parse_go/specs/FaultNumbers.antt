-- The number and the position of a fault.
use Rattle.std.specs.Prelude.{ℕ, Option, Some, None}
use Rattle.base.specs.declared.pos.Pos.{Pos}
use Rattle.parse_go.specs.declared.fault.ParseFault.{ParseFault}
use Rattle.parse_go.specs.declared.fault.ParseFault.TheVariants as fault

abbrev pub number_of : ParseFault → Option ℕ
number_of fault.NoMemory = None
number_of (fault.Unexpected pos) = Some 1
number_of (fault.TooDeep pos) = Some 2

abbrev pub pos_of : ParseFault → Option Pos
pos_of fault.NoMemory = None
pos_of (fault.Unexpected pos) = Some pos
pos_of (fault.TooDeep pos) = Some pos
