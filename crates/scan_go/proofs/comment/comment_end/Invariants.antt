use Rattle.std.proofs.Common.{◌≡◌, drop}
use Rattle.scan_go.specs.Comments.{comment_end, later}
use Rattle.scan_go.proofs.comment.comment_end.Given as goal

abbrev pub invariant-loop-i : goal.invariant-loop-i
invariant-loop-i l = later l.i (comment_end (drop l.i l.rest)) ≡ comment_end l.rest
