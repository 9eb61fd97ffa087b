use Rattle.operand_parts.proofs.literals.shape_fault.Goals as goal

pub returns-in-Some : goal.returns-in-Some
returns-in-Some c = rw c.in-Some.is c.typed_shape_fault.ensures
