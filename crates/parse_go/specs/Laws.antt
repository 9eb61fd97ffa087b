-- What holds of the faults of a text.
use Rattle.std.specs.Prelude.{◌≡◌, ◌≢◌, List}
use Rattle.base.specs.declared.pos.Pos.{Pos}
use Rattle.scan_go.specs.declared.token.Token.{Token}
use Rattle.parse_go.specs.declared.fault.ParseFault.{ParseFault}
use Rattle.parse_go.specs.declared.fault.ParseFault.TheVariants.{NoMemory}
use Rattle.parse_go.specs.Faults.{IsFirstFault}

-- Tokens have at most one fault: any two of them, want of memory aside, are of one kind at one position.
abbrev pub OneFault : Type 0
OneFault = (tokens : List Token) (end : Pos) (f g : ParseFault) → IsFirstFault tokens end f → IsFirstFault tokens end g → f ≢ NoMemory → g ≢ NoMemory → f ≡ g
