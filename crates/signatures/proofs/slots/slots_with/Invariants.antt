use Rattle.std.proofs.Common.{◌≡◌, ◌++◌, drop, map}
use Rattle.signatures.proofs.slots.slots_with.Given as goal
use Rattle.signatures.specs.Entries.{slot_with}

abbrev pub invariant-loop-name : goal.invariant-loop-name
invariant-loop-name l = map (slot_with l.value_type) l.names ≡ l.slots.items ++ map (slot_with l.value_type) (drop l.name-index l.names)
