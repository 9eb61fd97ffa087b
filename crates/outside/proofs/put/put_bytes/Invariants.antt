use Rattle.std.proofs.Common.{length, ◌-◌}
use Rattle.outside.proofs.Written.{Written}
use Rattle.outside.proofs.put.put_bytes.Given as goal

abbrev pub invariant-pieces : goal.invariant-pieces
invariant-pieces g l =
    Written (g.S.Sink.taken l.fn.out) (g.S.Sink.taken l.out) (g.S.Sink.number l.fn.out) (g.S.Sink.number l.out)
    (g.S.Sink.faults l.fn.out) (g.S.Sink.faults l.out) l.gone l.piece

abbrev pub decreases-pieces : goal.decreases-pieces
decreases-pieces g l = length l.piece - l.gone
