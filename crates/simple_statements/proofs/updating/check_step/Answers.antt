use Rattle.type_faults.proofs.Leasts.{least_join, leaf}
use Rattle.simple_statements.proofs.updating.check_step.Goals as goal

pub returns-clause-fault : goal.returns-clause-fault
returns-clause-fault c =
    rw (c.lesser.ensures, c.step_fault-own.ensures, c.in_ok-left.ensures.value, c.pos.ensures) (least_join _ _ c.in_ok-left.left.fault _ c.in_ok-left.ensures.fault (leaf _))
