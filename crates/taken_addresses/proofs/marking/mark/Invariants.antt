use Rattle.std.proofs.Common.{◌≡◌, drop}
use Rattle.taken_addresses.specs.Takes.{marked}
use Rattle.taken_addresses.proofs.marking.mark.Given as goal

abbrev pub invariant-loop-number : goal.invariant-loop-number
invariant-loop-number l = marked (drop l.number-index l.number-items) l.sites.items ≡ marked l.number-items l.initial.sites.items
