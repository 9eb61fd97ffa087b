-- Which rules fail in an expression as a type, and where each is reported.
use Rattle.std.specs.Prelude.{ℕ, List, Option, Some, None}
use Rattle.base.specs.declared.pos.Pos.{Pos}
use Rattle.syntax.specs.FirstBytes.{first_pos}
use Rattle.syntax.specs.Expressions.{Ex as TreeEx, name, paren, spelled}
use Rattle.type_faults.specs.declared.fault.Fault.{Fault}
use Rattle.type_faults.specs.declared.fault.FaultKind.TheVariants.{Unknown, Unfit, OutOfProfile}
use Rattle.type_faults.specs.Faults.{fault, IsFault, FormFails}
use Rattle.names.specs.declared.scope.Declared.{Declared}
use Rattle.names.specs.declared.scope.Declared.TheVariants as declared
use Rattle.names.specs.Scope.{Scope, declaration}

-- the name of a type: another type of the language, or what is no type
abbrev pub type_name_fault : Option Declared → Pos → Option Fault
type_name_fault None pos = Some (fault Unknown pos)
type_name_fault (Some (declared.«Type» t)) pos = None
type_name_fault (Some declared.LeftOutType) pos = Some (fault OutOfProfile pos)
type_name_fault (Some other) pos = Some (fault Unfit pos)

module _ (text : List ℕ) where
  -- a rule of a type: the name of one, in parentheses or not; all others are left out
  abbrev pub FailsAsType : Scope → TreeEx → Fault → Type 0
  FailsAsType s (name n) f = IsFault (type_name_fault (declaration s (spelled text n)) n.pos) f
  FailsAsType s (paren pos e) f = FailsAsType s e f
  FailsAsType s other f = FormFails (first_pos other) f
