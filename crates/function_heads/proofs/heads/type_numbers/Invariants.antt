use Rattle.std.proofs.Common.{◌≡◌, ◌++◌, drop, map}
use Rattle.function_heads.proofs.heads.type_numbers.Given as goal
use Rattle.function_heads.specs.Heads.{slot_number}

abbrev pub invariant-loop-slot : goal.invariant-loop-slot
invariant-loop-slot l = map (slot_number l.types) l.slots ≡ map (λ t. t.0) l.numbers.items ++ map (slot_number l.types) (drop l.slot-index l.slots)
