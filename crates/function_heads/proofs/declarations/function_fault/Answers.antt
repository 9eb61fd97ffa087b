use Rattle.type_faults.proofs.Leasts.{least_join}
use Rattle.function_heads.proofs.declarations.function_fault.Goals as goal

pub returns : goal.returns
returns c =
    rw (c.lesser-2.ensures, c.lesser.ensures)
    (least_join _ _ _ c.in_ok-types.types (least_join _ _ c.init_fault.result c.in_ok-external.external c.init_fault.ensures c.in_ok-external.ensures) c.in_ok-types.ensures)
