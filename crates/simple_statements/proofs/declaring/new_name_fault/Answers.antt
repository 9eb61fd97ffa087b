use Rattle.type_faults.proofs.Leasts.{leaf}
use Rattle.simple_statements.proofs.declaring.new_name_fault.Goals as goal

pub returns : goal.returns
returns c = rw (c.new_name_fault_of.ensures, c.is_blank.ensures, c.is_here.ensures, c.declaration.ensures, c.spelled-bytes.ensures) (leaf _)
