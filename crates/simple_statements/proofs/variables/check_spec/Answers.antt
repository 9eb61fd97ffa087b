use Rattle.expression_types.specs.Passing.{fault_before}
use Rattle.type_faults.proofs.Leasts.{least_join}
use Rattle.simple_statements.proofs.variables.check_spec.Goals as goal

pub returns-clause-fault : goal.returns-clause-fault
returns-clause-fault c = rw (c.lesser.ensures, c.fault_before.ensures) (least_join _ _ (fault_before c.in_ok-stated.stated) c.in_ok-line.line.fault c.in_ok-stated.ensures.fault c.in_ok-line.ensures.fault)
