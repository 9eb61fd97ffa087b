use Rattle.std.proofs.Common.{◌≡◌, Some, map, take}
use Rattle.typed_flows.proofs.pointers.all_of.Given as goal

abbrev pub invariant-loop-has : goal.invariant-loop-has
invariant-loop-has l = map (λ b. Some b) l.all.items ≡ take l.has-index l.known
