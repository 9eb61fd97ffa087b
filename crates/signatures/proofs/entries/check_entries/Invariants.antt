use Rattle.std.proofs.Common.{◌≡◌, drop, map}
use Rattle.std.specs.Option.{option_map}
use Rattle.typed.specs.View.{site_in}
use Rattle.type_faults.proofs.Leasts.{Kept}
use Rattle.names.specs.Scope.{scope_of}
use Rattle.type_faults.proofs.Lists.{joined}
use Rattle.signatures.proofs.entries.check_entries.Given as goal
use Rattle.signatures.specs.Entries.{entries, behind_entries}
use Rattle.signatures.specs.EntryFaults.{EntriesFail}

abbrev pub invariant-loop-slot : goal.invariant-loop-slot
invariant-loop-slot l =
    (entries l.text l.role (scope_of l.fn.scope) l.slots ≡ joined (option_map (λ v. map site_in v.items) l.entries) (entries l.text l.role (scope_of l.scope) (drop l.slot-index l.slots)))
    × (Kept (EntriesFail l.text l.role (scope_of l.fn.scope) l.slots) (EntriesFail l.text l.role (scope_of l.scope) (drop l.slot-index l.slots)) l.fault
    × (behind_entries l.text (scope_of l.fn.scope) l.slots ≡ behind_entries l.text (scope_of l.scope) (drop l.slot-index l.slots)))
