-- Which texts are accepted, with which program, and what all others are refused for.
use Rattle.std.specs.Prelude.{◌≡◌, ◌≢◌, ℕ, ◌≤◌, List, length, map, slice_get, Some, ⊤}
use Rattle.scan_go.specs.declared.token.Token.{Token}
use Rattle.scan_go.specs.declared.fault.ScanFault.TheVariants as scan
use Rattle.scan_go.specs.Scan.{AreTokens, IsFault}
use Rattle.scan_go.specs.Lines.{pos_at}
use Rattle.parse_go.specs.declared.fault.ParseFault.TheVariants as parse
use Rattle.syntax.specs.Declarations.{Syntax}
use Rattle.parse_go.specs.Grammar.{IsText}
use Rattle.parse_go.specs.Faults.{IsFirstFault}
use Rattle.type_faults.specs.declared.fault.TypeFault.TheVariants as typing
use Rattle.types_go.specs.Checked.{Types, Reports, AreAtNames}
use Rattle.typed_syntax.specs.Syntax.{Func, Program}
use Rattle.typed.specs.View.{program_of}
use Rattle.frames.specs.Placement.{coarse}
use Rattle.frames.specs.Frames.{frame_of}
use Rattle.typed.specs.declared.program.Func.{Func as FuncData}
use Rattle.typed.specs.declared.program.Program.{Program as ProgramData}
use Rattle.frame_layout.specs.declared.fault.LayoutFault.TheVariants as layout
use Rattle.frame_layout.specs.Layout.{first_too_large, IsTooLarge}
use Rattle.compile.specs.declared.fault.CompileFault.{CompileFault}
use Rattle.compile.specs.declared.fault.CompileFault.TheVariants.{NoMemory, Scan, Parse, Typing, Layout}

-- a text has this tree
pub record HasTree (text : List ℕ) (tree : Syntax) : Type 0 where
  pub tokens : List Token
  pub are : AreTokens text tokens
  pub is : IsText text tokens tree

-- a text has a tree that has this typed program
pub record HasProgram (text : List ℕ) (p : Program) : Type 0 where
  pub tree : Syntax
  pub has : HasTree text tree
  pub types : Types tree p

-- a text is accepted with this program: its tokens have a tree, the tree has this typed program, and with the placement
-- that needs no analysis no frame is too large
pub record Accepted (text : List ℕ) (p : Program) : Type 0 where
  pub program : HasProgram text p
  pub fits : (f : ℕ) (func : Func) → slice_get p.funcs f ≡ Some func → frame_of p (coarse p) func ≤ 65535

-- each function of a program stands where its name stands in the tree
abbrev pub StandAtNames : ProgramData → Syntax → Type 0
StandAtNames program tree = AreAtNames tree (map (λ (f : FuncData). f.pos) program.funcs.items)

-- a text's tokens have no tree, because of this fault
pub record HasParseFault (text : List ℕ) (f : Rattle.parse_go.specs.declared.fault.ParseFault.ParseFault) : Type 0 where
  pub tokens : List Token
  pub are : AreTokens text tokens
  pub first : IsFirstFault tokens (pos_at text (length text)) f
  pub fault : f ≢ parse.NoMemory

-- a text's tree has no typed program, because of this fault
pub record HasTypeFault (text : List ℕ) (f : Rattle.type_faults.specs.declared.fault.TypeFault.TypeFault) : Type 0 where
  pub tree : Syntax
  pub has : HasTree text tree
  pub least : Reports tree f
  pub fault : f ≢ typing.NoMemory

-- a text's program has a frame that is too large: the first such, at the name of its function
pub record HasLayoutFault (text : List ℕ) (f : Rattle.frame_layout.specs.declared.fault.LayoutFault.LayoutFault) : Type 0 where
  pub tree : Syntax
  pub has : HasTree text tree
  pub program : ProgramData
  pub types : Types tree (program_of program)
  pub names : StandAtNames program tree
  pub large : IsTooLarge (first_too_large (program_of program) (coarse (program_of program)) program.funcs.items) f
  pub fault : f ≢ layout.NoMemory

-- what a text is refused for: the fault of the first stage that refuses it
abbrev pub Refuses : List ℕ → CompileFault → Type 0
Refuses text NoMemory = ⊤
Refuses text (Scan f) = IsFault text f × (f ≢ scan.NoMemory)
Refuses text (Parse f) = HasParseFault text f
Refuses text (Typing f) = HasTypeFault text f
Refuses text (Layout f) = HasLayoutFault text f
