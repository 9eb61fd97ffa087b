-- Which rules fail at names with types in a block, and where each is reported.
use Rattle.std.specs.Prelude.{ℕ, ◌⊎◌, Bool, true, false, List, [], ◌∷◌, Option, Some, None}
use Rattle.base.specs.declared.pos.Pos.{Pos}
use Rattle.syntax.specs.declared.expression.Name.{Name}
use Rattle.syntax.specs.Expressions.{spelled}
use Rattle.type_faults.specs.declared.fault.Fault.{Fault}
use Rattle.type_faults.specs.declared.fault.FaultKind.TheVariants.{Redeclared, OutOfProfile}
use Rattle.type_faults.specs.Faults.{fault, IsFault}
use Rattle.names.specs.Universe.{is_blank}
use Rattle.names.specs.Scope.{Scope, is_here}
use Rattle.signatures.specs.declared.slots.Slot.{Slot}
use Rattle.signatures.specs.declared.entries.Role.{Role}
use Rattle.signatures.specs.declared.entries.Role.TheVariants.{Parameter as parameter, Result as result}
use Rattle.signatures.specs.Entries.{behind_entry}

-- a blank result
abbrev pub blank_fault : Role → Pos → Option Fault
blank_fault parameter pos = None
blank_fault result pos = Some (fault OutOfProfile pos)

abbrev pub variable_fault : (is_here : Bool) → Pos → Option Fault
variable_fault true pos = Some (fault Redeclared pos)
variable_fault false pos = None

abbrev pub named_fault : Role → (is_blank is_here : Bool) → Pos → Option Fault
named_fault role true is_here pos = blank_fault role pos
named_fault role false is_here pos = variable_fault is_here pos

module _ (text : List ℕ) where
  abbrev pub EntryFails : Role → Scope → Option Name → Fault → Type 0
  EntryFails role s None f = ⊥
  EntryFails role s (Some n) f = IsFault (named_fault role (is_blank (spelled text n)) (is_here s (spelled text n)) n.pos) f

  abbrev pub EntriesFail : Role → Scope → List Slot → Fault → Type 0
  EntriesFail role s [] f = ⊥
  EntriesFail role s (p ∷ ps) f = EntryFails role s p.name f ⊎ EntriesFail role (behind_entry text s p) ps f
