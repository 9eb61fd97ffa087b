use Rattle.std.proofs.Common.{◌≡◌, drop, false}
use Rattle.scan_go.specs.Strings.{fault_within}
use Rattle.scan_go.proofs.StringEnd.{after}
use Rattle.scan_go.proofs.string.fault_within.Given as goal

abbrev pub invariant-loop-i : goal.invariant-loop-i
invariant-loop-i l = after l.i (fault_within l.hidden (drop l.i l.content)) ≡ fault_within false l.content
