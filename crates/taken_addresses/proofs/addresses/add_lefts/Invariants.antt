use Rattle.std.proofs.Common.{◌≡◌, ◌++◌, drop, map}
use Rattle.typed.specs.View.{left_of}
use Rattle.taken_addresses.specs.Takes.{taken_in_lefts}
use Rattle.taken_addresses.proofs.addresses.add_lefts.Given as goal

abbrev pub invariant-loop-left : goal.invariant-loop-left
invariant-loop-left l = l.sites.items ++ taken_in_lefts (map left_of (drop l.left-index l.lefts)) ≡ l.fn.sites.items ++ taken_in_lefts (map left_of l.lefts)
