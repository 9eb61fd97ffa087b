use Rattle.type_faults.proofs.Leasts.{least_join, leaf}
use Rattle.simple_statements.proofs.updating.check_one.Goals as goal

pub returns-clause-fault : goal.returns-clause-fault
returns-clause-fault c =
    rw (c.lesser-2.ensures, c.lesser.ensures, c.pair_fault-own.ensures, c.pos.ensures, c.in_ok-right.ensures.pos, c.in_ok-left.ensures.value, c.in_ok-right.ensures.operand)
    (least_join _ _ _ _ (least_join _ _ c.in_ok-left.left.fault c.in_ok-right.right.fault c.in_ok-left.ensures.fault c.in_ok-right.ensures.fault) (leaf _))
