use Rattle.std.proofs.Common.{◌≡◌, [], ◌∷◌, ◌+◌, List, drop, map, get_or, sym, ap, ◌∙◌, subst, refl, arith}
use Rattle.std.specs.Option.{option_map}
use Rattle.typed.specs.View.{site_in}
use Rattle.type_faults.proofs.Leasts.{Kept, kept_start, kept_more, kept_end}
use Rattle.names.specs.Scope.{scope_of}
use Rattle.type_faults.proofs.Lists.{from_there, nothing_left, joined, joined_start, joined_more, joined_none}
use Rattle.signatures.proofs.entries.check_entries.Goals as goal
use Rattle.signatures.specs.declared.slots.Slot.{Slot}
use Rattle.signatures.specs.Entries.{entry_in, behind_entry, entries, behind_entries}
use Rattle.signatures.specs.EntryFaults.{EntryFails, EntriesFail}
use Rattle.signatures.proofs.Items.{no_slot}

pub loop-slot-init : goal.loop-slot-init
loop-slot-init c = (rw (c.new.ensures.items) (sym (joined_start (entries c.args.text.now c.args.role (scope_of c.args.scope.now) c.args.slots.now))), (kept_start _, refl))

pub loop-slot-preserved : goal.loop-slot-preserved
loop-slot-preserved c =
    let text = c.args.text.now in
    let role = c.args.role in
    let start = scope_of c.args.scope.now in
    let s = scope_of c.loop-slot.scope in
    let xs = c.args.slots.now in
    let k = c.loop-slot.slot-index in
    let p : Slot = get_or xs k no_slot in
    let rest = drop (k + 1) xs in
    let so_far = option_map (λ v. map site_in v.items) c.loop-slot.entries in
    let s1 = behind_entry text s p in
    let here : drop k xs ≡ p ∷ rest = from_there xs k no_slot c.loop-slot-test.true in
    let front = c.loop-slot.invariant.0 ∙ ap (λ (l : List Slot). joined so_far (entries text role s l)) here in
    let kept = subst (λ (l : List Slot). Kept (EntriesFail text role start xs) (EntriesFail text role s l) c.loop-slot.fault) here c.loop-slot.invariant.1.0 in
    rw (c.in_ok-declare_entry.ensures) (
      rw (c.in_ok-entries.ensures, c.in_ok-entry.ensures) (front ∙ joined_more so_far (entry_in text role s p.name) (entries text role s1 rest)),
      (
        rw (c.lesser-fault.ensures) (kept_more (EntriesFail text role start xs) (EntryFails text role s p.name) (EntriesFail text role s1 rest) c.loop-slot.fault c.entry_fault.result kept c.entry_fault.ensures),
        c.loop-slot.invariant.1.1 ∙ ap (λ (l : List Slot). behind_entries text s l) here,
      ),
    )

pub returns-clause-entries : goal.returns-clause-entries
returns-clause-entries c =
    let text = c.args.text.now in
    let s = scope_of c.loop-slot.scope in
    let xs = c.args.slots.now in
    let k = c.loop-slot.slot-index in
    let so_far = option_map (λ v. map site_in v.items) c.loop-slot.entries in
    let none : drop k xs ≡ [] = nothing_left xs k (λ l. absurd (omega (arith, l, c.loop-slot-test.false))) in
    sym (c.loop-slot.invariant.0 ∙ ap (λ (l : List Slot). joined so_far (entries text c.args.role s l)) none ∙ joined_none so_far)

pub returns-clause-fault : goal.returns-clause-fault
returns-clause-fault c =
    let text = c.args.text.now in
    let s = scope_of c.loop-slot.scope in
    let xs = c.args.slots.now in
    let k = c.loop-slot.slot-index in
    let none : drop k xs ≡ [] = nothing_left xs k (λ l. absurd (omega (arith, l, c.loop-slot-test.false))) in
    kept_end (EntriesFail text c.args.role (scope_of c.args.scope.now) xs) (EntriesFail text c.args.role s (drop k xs)) c.loop-slot.fault (λ g h. subst (λ (l : List Slot). EntriesFail text c.args.role s l g) none h) c.loop-slot.invariant.1.0

pub returns-clause-scope : goal.returns-clause-scope
returns-clause-scope c =
    let text = c.args.text.now in
    let s = scope_of c.loop-slot.scope in
    let xs = c.args.slots.now in
    let k = c.loop-slot.slot-index in
    let none : drop k xs ≡ [] = nothing_left xs k (λ l. absurd (omega (arith, l, c.loop-slot-test.false))) in
    sym (c.loop-slot.invariant.1.1 ∙ ap (λ (l : List Slot). behind_entries text s l) none)
