use Rattle.type_faults.proofs.Leasts.{least_join, leaf}
use Rattle.types_go.proofs.ranges.check_over.Goals as goal

pub returns-clause-fault : goal.returns-clause-fault
returns-clause-fault c =
    rw (c.lesser-fault.ensures, c.over_fault-own.ensures, c.in_ok-found.ensures.pos, c.in_ok-found.ensures.operand) (least_join _ _ c.in_ok-found.found.fault _ c.in_ok-found.ensures.fault (leaf _))
