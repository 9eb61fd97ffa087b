use Rattle.std.proofs.Common.{◌≡◌, drop}
use Rattle.struct_sizes.specs.Structs.{is_in_place}
use Rattle.struct_sizes.proofs.graphs.is_in_place.Given as goal

abbrev pub invariant-loop-prefix : goal.invariant-loop-prefix
invariant-loop-prefix l = is_in_place (drop l.prefix-index l.prefixes) ≡ is_in_place l.prefixes
