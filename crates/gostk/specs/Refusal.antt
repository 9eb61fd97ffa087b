-- Why a text is refused, and the line that says so.
use Rattle.std.specs.Prelude.{ℕ, List, [], ◌++◌, Option, Some, None, decimal, codes}
use Rattle.base.specs.declared.pos.Pos.{Pos}
use Rattle.scan_go.specs.Faults as scanning
use Rattle.parse_go.specs.FaultNumbers as parsing
use Rattle.type_faults.specs.Least as checking
use Rattle.type_faults.specs.declared.fault.TypeFault.TheVariants as typing
use Rattle.frame_layout.specs.declared.fault.LayoutFault.TheVariants as layout
use Rattle.compile.specs.declared.fault.CompileFault.{CompileFault}
use Rattle.compile.specs.declared.fault.CompileFault.TheVariants as compile
use Rattle.gostk.specs.declared.refusal.Stage.{Stage}
use Rattle.gostk.specs.declared.refusal.Stage.TheVariants.{Scan, Parse, Typing, Layout}
use Rattle.gostk.specs.declared.refusal.Refusal.{Refusal}

-- a refusal with this number at this place, where there are both
abbrev pub refusal_at : Stage → Option ℕ → Option Pos → Option Refusal
refusal_at stage None pos = None
refusal_at stage (Some kind) None = None
refusal_at stage (Some kind) (Some pos) = Some (record { stage = stage; kind = kind; pos = pos; words = None })

-- the refusal that a fault of the compiler is; want of memory is none
abbrev pub refusal_of : CompileFault → Option Refusal
refusal_of compile.NoMemory = None
refusal_of (compile.Scan fault) = refusal_at Scan (scanning.fault_number fault) (scanning.fault_pos fault)
refusal_of (compile.Parse fault) = refusal_at Parse (parsing.number_of fault) (parsing.pos_of fault)
refusal_of (compile.Typing typing.NoMemory) = None
refusal_of (compile.Typing (typing.Fault fault)) =
    Some (record { stage = Typing; kind = checking.kind_number fault.kind; pos = fault.pos; words = None })
refusal_of (compile.Layout layout.NoMemory) = None
refusal_of (compile.Layout (layout.FrameTooLarge pos words)) =
    Some (record { stage = Layout; kind = 1; pos = pos; words = Some words })

abbrev pub stage_text : Stage → List ℕ
stage_text Scan = codes "scan"
stage_text Parse = codes "parse"
stage_text Typing = codes "type"
stage_text Layout = codes "layout"

abbrev pub words_text : Option ℕ → List ℕ
words_text None = []
words_text (Some words) = codes " words " ++ decimal words

-- FILE:L:C: STAGE kind N, and for a frame that is too large ` words W` after it
abbrev pub refusal_line : List ℕ → Refusal → List ℕ
refusal_line file r =
    file ++ (codes ":" ++ (decimal r.pos.line ++ (codes ":" ++ (decimal r.pos.col ++ (codes ": "
    ++ (stage_text r.stage ++ (codes " kind " ++ (decimal r.kind ++ (words_text r.words ++ codes "\n")))))))))
