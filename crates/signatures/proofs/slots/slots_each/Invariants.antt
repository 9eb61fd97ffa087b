use Rattle.std.proofs.Common.{◌≡◌, ◌++◌, drop, length}
use Rattle.std.specs.Option.{option_map}
use Rattle.signatures.proofs.slots.slots_each.Given as goal
use Rattle.signatures.specs.Entries.{slots_each}
use Rattle.signatures.proofs.Items.{types_from}

abbrev pub invariant-loop-name : goal.invariant-loop-name
invariant-loop-name l =
    slots_each (option_map (λ v. v.items) l.types) l.names ≡ l.slots.items ++ slots_each (types_from (length l.slots.items) (option_map (λ v. v.items) l.types)) (drop l.name-index l.names)
