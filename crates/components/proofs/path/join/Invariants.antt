use Rattle.components.proofs.Joining.{IsJoining}
use Rattle.std.proofs.Common.{length}
use Rattle.components.proofs.path.join.Given as goal

abbrev pub invariant-loop-start : goal.invariant-loop-start
invariant-loop-start l = IsJoining l.fn.starts.items l.place l.starts.items

abbrev pub decreases-loop-start : goal.decreases-loop-start
decreases-loop-start l = length l.starts.items
