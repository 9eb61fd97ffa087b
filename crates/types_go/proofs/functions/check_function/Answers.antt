use Rattle.type_faults.proofs.Leasts.{if_ok}
use Rattle.types_go.proofs.functions.check_function.Goals as goal

pub returns-in-Some-clause-fault : goal.returns-in-Some-clause-fault
returns-in-Some-clause-fault c = rw (c.in-Some.is) c.check_with_body.ensures.fault

pub returns-in-None-clause-fault : goal.returns-in-None-clause-fault
returns-in-None-clause-fault c = rw (c.in-None.is) c.check_external.ensures.fault

pub returns-in-None-clause-pos : goal.returns-in-None-clause-pos
returns-in-None-clause-pos c = if_ok _ _ c.check_external.result (λ x h. h c.args.f.now.name.pos) c.check_external.ensures.pos
