use Rattle.std.proofs.Common.{arith}
use Rattle.scan_go.proofs.NumberValue.{too_big}
use Rattle.scan_go.proofs.number.value.Goals as goal

pub returns-in_err-value : goal.returns-in_err-value
returns-in_err-value c =
    rw c.from_residual.ensures (too_big c.args.base c.args.run.now c.loop-b.b-index c.loop-b.value (omega arith) c.loop-b.invariant.so_far (λ below. c.in_err-value.ensures below))
