use Rattle.type_faults.proofs.Leasts.{leaf}
use Rattle.simple_statements.proofs.sides.name_left_fault.Goals as goal

pub returns : goal.returns
returns c = rw (c.left_fault_of.ensures, c.is_blank.ensures, c.declaration.ensures, c.spelled-bytes.ensures) (leaf _)
