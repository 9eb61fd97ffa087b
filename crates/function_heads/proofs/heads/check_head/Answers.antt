use Rattle.type_faults.proofs.Leasts.{least_join}
use Rattle.function_heads.proofs.heads.check_head.Goals as goal

pub returns-clause-fault : goal.returns-clause-fault
returns-clause-fault c = rw (c.lesser.ensures) (least_join _ _ c.name_fault.result c.number_fault.result c.name_fault.ensures c.number_fault.ensures)
