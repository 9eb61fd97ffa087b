-- Which rules fail in the header of a `range`, and where each is reported. A rule is looked at only where its operands have
-- types.
use Rattle.std.specs.Prelude.{ℕ, ◌⊎◌, not, List, ◌∷◌, Option, Some, None, option_and_then, nat_le, if◌then◌else◌}
use Rattle.std.specs.Option.{option_map}
use Rattle.base.specs.declared.pos.Pos.{Pos}
use Rattle.base.specs.declared.value_type.ValueType.{ValueType}
use Rattle.syntax.specs.FirstBytes.{first_pos}
use Rattle.syntax.specs.Expressions.{Ex as TreeEx, Exs as TreeExs, some}
use Rattle.syntax.specs.Statements.{Targets, no_targets, targets_assigned, targets_defined}
use Rattle.typed_syntax.specs.Syntax.{Ex}
use Rattle.typed.specs.Tables.{Table}
use Rattle.type_faults.specs.declared.fault.Fault.{Fault}
use Rattle.type_faults.specs.declared.fault.FaultKind.TheVariants.{NothingNew, Mismatch, WrongCount, Unfit}
use Rattle.type_faults.specs.Faults.{fault, IsFault}
use Rattle.operators.specs.Operands.{Operand}
use Rattle.names.specs.Scope.{Scope, opened}
use Rattle.operand_calls.specs.Calls.{unevaluated_fault}
use Rattle.given_values.specs.declared.wants.Wanted.{Wanted}
use Rattle.given_values.specs.Given.{accepts, operand_in}
use Rattle.expression_types.specs.Typing.{gives}
use Rattle.given_values.specs.GivenFaults.{range_fault}
use Rattle.expression_types.specs.Faults.{FailsAsOperand}
use Rattle.signatures.specs.declared.entries.Role.TheVariants.{Parameter}
use Rattle.signatures.specs.Entries.{slots_each}
use Rattle.signatures.specs.EntryFaults.{EntriesFail}
use Rattle.signatures.specs.Failing.{fault_where}
use Rattle.simple_statements.specs.SimpleStatements.{all_wanted}
use Rattle.simple_statements.specs.SimpleFaults.{LeftsFail}
use Rattle.types_go.specs.Ranges.{Ranged, numbers, array, ranged_of, most, given, ranged, over, all_blank, target_count}

-- what it can't go over is reported at the word of the statement, and an int's constant that no int holds at its first byte
abbrev pub ranged_fault : Pos → (value_pos : Pos) → Operand → Option Ranged → Option Fault
ranged_fault pos value_pos x None = Some (fault Unfit pos)
ranged_fault pos value_pos x (Some r) = range_fault value_pos (Some x)

abbrev pub over_fault : Table → Pos → (value_pos : Pos) → Option Operand → Option Fault
over_fault T pos value_pos None = None
over_fault T pos value_pos (Some x) = ranged_fault pos value_pos x (ranged_of T x)

-- a left side of another type than that of what it gets
abbrev pub given_fault : ValueType → Wanted → Pos → Option Fault
given_fault t p pos = fault_where (not (accepts p t)) (fault Mismatch pos)

-- left sides that ask for this, which get values of these types
abbrev pub EachFails : List ValueType → List Wanted → TreeExs → Fault → Type 0
EachFails (t ∷ ts) (p ∷ ps) (some e es) f = IsFault (given_fault t p (first_pos e)) f ⊎ EachFails ts ps es f
EachFails ts ps es f = ⊥

abbrev pub GivenFail : Option (List ValueType) → List Wanted → TreeExs → Fault → Type 0
GivenFail None ps es f = ⊥
GivenFail (Some ts) ps es f = EachFails ts ps es f

-- more left sides than there may be
abbrev pub keys_fault : Pos → (most : Option ℕ) → Option ℕ → Option Fault
keys_fault pos None n = None
keys_fault pos (Some m) None = None
keys_fault pos (Some m) (Some n) = fault_where (not (nat_le n m)) (fault WrongCount pos)

-- a fault of what isn't evaluated, which is so with one left side at most
abbrev pub call_fault : Option ℕ → Option Fault → Option Fault
call_fault None found = None
call_fault (Some n) found = if nat_le n 1 then found else None

module _ (text : List ℕ) where
  -- a call in an array
  abbrev pub array_call : Scope → TreeEx → Ranged → Ex → Option Fault
  array_call s e numbers x = None
  array_call s e (array t a) x = unevaluated_fault text s e x

  abbrev pub call_in : Scope → TreeEx → Option Ranged → Option Ex → Option Fault
  call_in s e r o = option_and_then (λ k. option_and_then (array_call s e k) o) r

  abbrev pub FailsInOver : Scope → Pos → TreeEx → Fault → Type 0
  FailsInOver s pos e f = FailsAsOperand text s e f ⊎ IsFault (over_fault s.types pos (first_pos e) (operand_in (gives text s e))) f

  abbrev pub TargetsFail : Scope → Option (List ValueType) → Targets → Fault → Type 0
  TargetsFail s ts no_targets f = ⊥
  TargetsFail s ts (targets_assigned ls pos) f = LeftsFail text s ls f ⊎ GivenFail ts (all_wanted text s ls) ls f
  TargetsFail s ts (targets_defined ns pos) f = EntriesFail text Parameter s (slots_each ts ns) f ⊎ IsFault (fault_where (all_blank text ns) (fault NothingNew pos)) f

  abbrev pub FailsInRange : Scope → Pos → Targets → TreeEx → Fault → Type 0
  FailsInRange s pos t e f =
      ((FailsInOver s pos e f ⊎ TargetsFail (opened s) (given text s e) t f) ⊎ IsFault (keys_fault pos (option_map most (ranged text s e)) (target_count text (opened s) t)) f)
      ⊎ IsFault (call_fault (target_count text (opened s) t) (call_in s e (ranged text s e) (over text s e))) f
