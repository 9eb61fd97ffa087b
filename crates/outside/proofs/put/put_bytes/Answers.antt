use Rattle.std.proofs.Common.{rules}
use Rattle.outside.proofs.Written.{at_first, carried_on, stopped}
use Rattle.outside.proofs.put.put_bytes.Goals as goal

pub pieces-init : goal.pieces-init
pieces-init g c = at_first _ _ _ _

pub pieces-preserved : goal.pieces-preserved
pieces-preserved g c =
    carried_on _ _ _ _ _ _ _ _ _ _ _ _ c.pieces.invariant (search rules) c.in-Ok.ensures.bytes c.in-Ok.ensures.number
    c.in-Ok.ensures.cause.later

pub returns-in-Err-clause-puts : goal.returns-in-Err-clause-puts
returns-in-Err-clause-puts g c =
    stopped _ _ _ _ _ _ _ _ _ _ c.pieces.invariant c.pieces-test.true c.in-Err.ensures.bytes c.in-Err.ensures.number
