use Rattle.parse_simple_statements.proofs.simple.step_simple.Goals as goal

pub returns-in-Left : goal.returns-in-Left
returns-in-Left c = rw c.in-Left.is c.in_left.ensures

pub returns-in-InValue : goal.returns-in-InValue
returns-in-InValue c = rw c.in-InValue.is c.in_value.ensures
