-- Names with types in a block: each has its entry, or a rule fails there, and never both; after them every variable has a type.
use Rattle.std.proofs.Common.{◌≡◌, ℕ, Bool, true, false, cond, List, [], ◌∷◌, ◌++◌, map, length, Option, Some, None, refl, sym, subst, arith}
use Rattle.std.specs.Prelude.{is_some, not, ◌&&◌}
use Rattle.std.specs.List.{AllByRecursion}
use Rattle.std.specs.Option.{option_map}
use Rattle.base.specs.declared.pos.Pos.{Pos}
use Rattle.syntax.specs.declared.expression.Name.{Name}
use Rattle.syntax.specs.Expressions.{spelled}
use Rattle.type_faults.specs.declared.fault.Fault.{Fault}
use Rattle.type_faults.specs.declared.fault.FaultKind.TheVariants.{Redeclared, OutOfProfile}
use Rattle.base.specs.declared.value_type.ValueType.{ValueType}
use Rattle.type_faults.specs.Faults.{fault, IsFault}
use Rattle.type_faults.proofs.Decided.{Decided, Tested, mapped, after}
use Rattle.names.specs.declared.settings.Setting.{Setting}
use Rattle.names.specs.declared.scope.Declared.{Declared}
use Rattle.names.specs.Universe.{is_blank}
use Rattle.names.specs.Scope.{Scope, is_here, with_variable, with_setting, opened, closed}
use Rattle.names.proofs.Settled.{IsTyped, IsSettled}
use Rattle.signatures.specs.declared.slots.Slot.{Slot}
use Rattle.signatures.specs.declared.entries.Role.{Role}
use Rattle.signatures.specs.declared.entries.Role.TheVariants.{Parameter, Result}
use Rattle.signatures.specs.Entries.{blank_entry, variable_entry, entry_of, slot_with, slots_each, entry_in, behind_entry_name, behind_entry, entries, behind_entries}
use Rattle.signatures.specs.EntryFaults.{blank_fault, variable_fault, named_fault, EntryFails, EntriesFail}
use Rattle.signatures.specs.Failing.{fault_where}

pub where_tested : (b : Bool) (own : Fault) → Tested (not b) (IsFault (fault_where b own))
where_tested true own = (own, refl)
where_tested false own = λ f h. h

pub where_not : (b : Bool) (own : Fault) → Tested b (IsFault (fault_where (not b) own))
where_not true own = λ f h. h
where_not false own = (own, refl)

pub some_tested : {A : Type 0} (o : Option A) (P : Fault → Type 0) → Decided o P → Tested (is_some o) P
some_tested None P d = d
some_tested (Some x) P d = d

-- ---- scopes in which every variable has a type

pub one_more_declared : (P : Declared → Type 0) (ds : List Declared) (d : Declared) → AllByRecursion P ds → P d → AllByRecursion P (ds ++ d ∷ [])
one_more_declared P [] d all p = (p, tt)
one_more_declared P (e ∷ ds) d all p = (all.0, one_more_declared P ds d all.1 p)

pub settled_with : (s : Scope) (n : List ℕ) (t : ValueType) (at : Pos) → IsSettled s → IsSettled (with_variable (Some t) s n at)
settled_with s n t at settled = record { all = one_more_declared (IsTyped s.types s.signatures s.values) s.declared _ settled.all tt; formed = settled.formed }

pub settled_opened : (s : Scope) → IsSettled s → IsSettled (opened s)
settled_opened s settled = record { all = settled.all; formed = settled.formed }

pub settled_closed : (s : Scope) → IsSettled s → IsSettled (closed s)
settled_closed s settled = record { all = settled.all; formed = settled.formed }

pub settled_set : (s : Scope) (x : Setting) → IsSettled s → IsSettled (with_setting s x)
settled_set s x settled = record { all = settled.all; formed = settled.formed }

-- names with types that are known
abbrev pub AllTyped : List Slot → Type 0
AllTyped [] = Unit {0}
AllTyped (p ∷ ps) = (t : ValueType) × (p.value_type ≡ Some t) × AllTyped ps

pub with_typed : (t : ValueType) (ns : List Name) → AllTyped (map (slot_with (Some t)) ns)
with_typed t [] = tt
with_typed t (n ∷ ns) = (t, refl, with_typed t ns)

pub each_typed : (ts : List ValueType) (ns : List Name) → length ts ≡ length ns → AllTyped (slots_each (Some ts) ns)
each_typed [] [] long = tt
each_typed [] (n ∷ ns) long = absurd (omega (arith, long))
each_typed (t ∷ ts) [] long = absurd (omega (arith, long))
each_typed (t ∷ ts) (n ∷ ns) long = (t, refl, each_typed ts ns (omega (arith, long)))

-- ---- entries

blank_decided : (role : Role) (at : Pos) → Decided (blank_entry role) (IsFault (blank_fault role at))
blank_decided Parameter at = λ f h. h
blank_decided Result at = (fault OutOfProfile at, refl)

variable_decided : (is_here : Bool) (site : ℕ) (at : Pos) → Decided (variable_entry is_here site) (IsFault (variable_fault is_here at))
variable_decided true site at = (fault Redeclared at, refl)
variable_decided false site at = λ f h. h

named_decided : (role : Role) (is_blank is_here : Bool) (site : ℕ) (at : Pos) → Decided (entry_of role is_blank is_here site) (IsFault (named_fault role is_blank is_here at))
named_decided role true is_here site at = blank_decided role at
named_decided role false is_here site at = variable_decided is_here site at

module _ (text : List ℕ) where
  settled_entry : (s : Scope) (t : ValueType) (n : Option Name) → IsSettled s → IsSettled (behind_entry_name text (Some t) s n)
  settled_entry s t None settled = settled
  settled_entry s t (Some n) settled = by (not (is_blank (spelled text n)) && not (is_here s (spelled text n)))
    where
      by : (b : Bool) → IsSettled (cond b (with_variable (Some t) s (spelled text n) n.pos) s)
      by true = settled_with s (spelled text n) t n.pos settled
      by false = settled

  pub settled_entries : (s : Scope) (ps : List Slot) → AllTyped ps → IsSettled s → IsSettled (behind_entries text s ps)
  settled_entries s [] all settled = settled
  settled_entries s (p ∷ ps) all settled =
      settled_entries (behind_entry text s p) ps all.2 (subst (λ (o : Option ValueType). IsSettled (behind_entry_name text o s p.name)) (sym all.1) (settled_entry s all.0 p.name settled))

  entry_decided : (role : Role) (s : Scope) (n : Option Name) → Decided (entry_in text role s n) (EntryFails text role s n)
  entry_decided role s None = λ f h. h
  entry_decided role s (Some n) = named_decided role (is_blank (spelled text n)) (is_here s (spelled text n)) (length s.sites) n.pos

  pub entries_decided : (role : Role) (s : Scope) (ps : List Slot) → Decided (entries text role s ps) (EntriesFail text role s ps)
  entries_decided role s [] = λ f h. h
  entries_decided role s (p ∷ ps) =
      after (entry_in text role s p.name) (λ e. option_map (λ es. e ∷ es) (entries text role (behind_entry text s p) ps)) (EntryFails text role s p.name) (EntriesFail text role (behind_entry text s p) ps)
      (entry_decided role s p.name) (λ e is. mapped (λ es. e ∷ es) (entries text role (behind_entry text s p) ps) (EntriesFail text role (behind_entry text s p) ps) (entries_decided role (behind_entry text s p) ps))
