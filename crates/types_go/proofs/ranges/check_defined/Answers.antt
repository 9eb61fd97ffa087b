use Rattle.std.proofs.Common.{◌≡◌, List, ◌∙◌, subst}
use Rattle.std.specs.Option.{option_map}
use Rattle.type_faults.specs.Least.{IsLeast}
use Rattle.type_faults.proofs.Leasts.{least_join, leaf}
use Rattle.names.specs.Scope.{scope_of}
use Rattle.types_go.proofs.ranges.check_defined.Goals as goal
use Rattle.signatures.specs.declared.slots.Slot.{Slot}
use Rattle.signatures.specs.declared.entries.Role.TheVariants.{Parameter}
use Rattle.signatures.specs.Entries.{slots_each}
use Rattle.signatures.specs.EntryFaults.{EntriesFail}

pub returns-clause-fault : goal.returns-clause-fault
returns-clause-fault c =
    let text = c.args.text.now in
    let s = scope_of c.args.scope.now in
    let slots : c.deref.result.now ≡ slots_each (option_map (λ v. v.items) c.args.given.now) c.args.names.now = c.deref.ensures.value ∙ c.in_ok-slots.ensures in
    let first : IsLeast (EntriesFail text Parameter s (slots_each (option_map (λ v. v.items) c.args.given.now) c.args.names.now)) c.in_ok-entries.entries.fault =
    subst (λ (l : List Slot). IsLeast (EntriesFail text Parameter s l) c.in_ok-entries.entries.fault) slots c.in_ok-entries.ensures.fault in
    rw (c.lesser.ensures, c.fault_where.ensures, c.all_blank-blank.ensures) (least_join _ _ c.in_ok-entries.entries.fault _ first (leaf _))
