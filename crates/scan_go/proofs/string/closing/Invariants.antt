use Rattle.std.proofs.Common.{◌≡◌, drop, false}
use Rattle.scan_go.specs.Comments.{later}
use Rattle.scan_go.specs.Strings.{closing}
use Rattle.scan_go.proofs.string.closing.Given as goal

abbrev pub invariant-loop-i : goal.invariant-loop-i
invariant-loop-i l = later l.i (closing l.hidden (drop l.i l.after)) ≡ closing false l.after
