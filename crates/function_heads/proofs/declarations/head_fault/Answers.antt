use Rattle.type_faults.proofs.Leasts.{least_join}
use Rattle.function_heads.proofs.declarations.head_fault.Goals as goal

pub returns : goal.returns
returns c = rw (c.lesser.ensures) (least_join _ _ c.in_ok-params.params c.in_ok-results.results c.in_ok-params.ensures c.in_ok-results.ensures)
