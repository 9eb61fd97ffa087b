use Rattle.expression_types.proofs.declared.check_before.Goals as goal

pub returns-in_ok-check_stated-in-Some-clause-fault : goal.returns-in_ok-check_stated-in-Some-clause-fault
returns-in_ok-check_stated-in-Some-clause-fault c = rw (c.in-Some.is) c.in_ok-check_stated-in-Some.ensures.fault
