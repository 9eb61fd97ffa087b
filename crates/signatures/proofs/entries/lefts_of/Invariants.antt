use Rattle.std.proofs.Common.{◌≡◌, ◌++◌, drop, map}
use Rattle.typed.specs.View.{site_in, left_of}
use Rattle.signatures.proofs.entries.lefts_of.Given as goal
use Rattle.signatures.specs.Entries.{entry_left}

abbrev pub invariant-loop-entry : goal.invariant-loop-entry
invariant-loop-entry l = map entry_left (map site_in l.entries) ≡ map left_of l.lefts.items ++ map entry_left (map site_in (drop l.entry-index l.entries))
