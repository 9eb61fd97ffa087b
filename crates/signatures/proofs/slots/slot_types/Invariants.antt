use Rattle.std.proofs.Common.{◌≡◌, ◌++◌, drop, map}
use Rattle.signatures.proofs.slots.slot_types.Given as goal
use Rattle.signatures.specs.declared.slots.Slot.{Slot}

abbrev pub invariant-loop-slot : goal.invariant-loop-slot
invariant-loop-slot l = map (λ (p : Slot). p.value_type) l.slots ≡ l.types.items ++ map (λ (p : Slot). p.value_type) (drop l.slot-index l.slots)
