use Rattle.type_faults.proofs.Leasts.{least_join}
use Rattle.types_go.proofs.pass.open_fault.Goals as goal

pub returns : goal.returns
returns c = rw c.lesser.ensures (λ own_name. least_join _ _ _ _ c.in_ok-functions.ensures c.in_ok-structs.ensures)
