use Rattle.std.proofs.Common.{None, sym}
use Rattle.type_faults.proofs.Leasts.{least_join, if_ok}
use Rattle.simple_statements.proofs.variables.check_names.Goals as goal

pub returns-then-is_bare-clause-fault : goal.returns-then-is_bare-clause-fault
returns-then-is_bare-clause-fault c = rw (sym c.is_bare.ensures, c.if-is_bare.true) (if_ok _ _ c.check_bare.result (λ l e. least_join (λ f. ⊥) _ None l.fault (λ f h. h) e) c.check_bare.ensures.fault)

pub returns-else-is_bare-clause-fault : goal.returns-else-is_bare-clause-fault
returns-else-is_bare-clause-fault c = rw (sym c.is_bare.ensures, c.if-is_bare.false) c.check_given.ensures.fault
