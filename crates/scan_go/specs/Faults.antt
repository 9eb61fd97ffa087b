-- The numbers under which faults are printed, and their places.
use Rattle.std.specs.Prelude.{ℕ, Option, Some, None}
use Rattle.base.specs.declared.pos.Pos.{Pos}
use Rattle.scan_go.specs.declared.fault.FaultKind.{FaultKind}
use Rattle.scan_go.specs.declared.fault.FaultKind.TheVariants as fault
use Rattle.scan_go.specs.declared.fault.ScanFault.{ScanFault}
use Rattle.scan_go.specs.declared.fault.ScanFault.TheVariants as scan

abbrev pub kind_number : FaultKind → ℕ
kind_number fault.Nul = 3
kind_number fault.BadChar = 4
kind_number fault.BadNumber = 5
kind_number fault.NumberTooBig = 6
kind_number fault.OpenComment = 7
kind_number fault.OpenString = 8
kind_number fault.BadEscape = 9
kind_number fault.OutOfProfile = 10

-- none where memory ran out, which is no fault of the text
abbrev pub fault_number : ScanFault → Option ℕ
fault_number scan.NoMemory = None
fault_number (scan.TooLong pos) = Some 1
fault_number (scan.NotUtf8 pos) = Some 2
fault_number (scan.Fault kind pos) = Some (kind_number kind)

abbrev pub fault_pos : ScanFault → Option Pos
fault_pos scan.NoMemory = None
fault_pos (scan.TooLong pos) = Some pos
fault_pos (scan.NotUtf8 pos) = Some pos
fault_pos (scan.Fault kind pos) = Some pos
