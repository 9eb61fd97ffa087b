use Rattle.std.proofs.Common.{◌≡◌, drop}
use Rattle.std.specs.Option.{option_map}
use Rattle.type_faults.proofs.Lists.{joined}
use Rattle.signatures.proofs.slots.types_of.Given as goal
use Rattle.signatures.specs.Signatures.{types_of}

abbrev pub invariant-loop-slot : goal.invariant-loop-slot
invariant-loop-slot l = types_of l.slots ≡ joined (option_map (λ v. v.items) l.types) (types_of (drop l.slot-index l.slots))
