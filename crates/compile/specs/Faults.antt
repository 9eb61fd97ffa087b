-- A stage's fault as the compiler's: want of memory is the compiler's own.
use Rattle.scan_go.specs.declared.fault.ScanFault.{ScanFault}
use Rattle.scan_go.specs.declared.fault.ScanFault.TheVariants as scan
use Rattle.parse_go.specs.declared.fault.ParseFault.{ParseFault}
use Rattle.parse_go.specs.declared.fault.ParseFault.TheVariants as parse
use Rattle.type_faults.specs.declared.fault.TypeFault.{TypeFault}
use Rattle.type_faults.specs.declared.fault.TypeFault.TheVariants as typing
use Rattle.frame_layout.specs.declared.fault.LayoutFault.{LayoutFault}
use Rattle.frame_layout.specs.declared.fault.LayoutFault.TheVariants as layout
use Rattle.compile.specs.declared.fault.CompileFault.{CompileFault}
use Rattle.compile.specs.declared.fault.CompileFault.TheVariants.{NoMemory, Scan, Parse, Typing, Layout}

abbrev pub of_scan : ScanFault → CompileFault
of_scan scan.NoMemory = NoMemory
of_scan f = Scan f

abbrev pub of_parse : ParseFault → CompileFault
of_parse parse.NoMemory = NoMemory
of_parse f = Parse f

abbrev pub of_typing : TypeFault → CompileFault
of_typing typing.NoMemory = NoMemory
of_typing f = Typing f

abbrev pub of_layout : LayoutFault → CompileFault
of_layout layout.NoMemory = NoMemory
of_layout f = Layout f
