use Rattle.std.proofs.Common.{◌≡◌, ◌++◌, drop, map}
use Rattle.typed.specs.View.{piece_of}
use Rattle.taken_addresses.specs.Takes.{taken_in_pieces}
use Rattle.taken_addresses.proofs.addresses.add_pieces.Given as goal

abbrev pub invariant-loop-p : goal.invariant-loop-p
invariant-loop-p l = l.sites.items ++ taken_in_pieces (map piece_of (drop l.p-index l.ps)) ≡ l.fn.sites.items ++ taken_in_pieces (map piece_of l.ps)
