use Rattle.types_go.proofs.heads.check_post.Goals as goal

pub returns-in_ok-statements-in-Some-clause-fault : goal.returns-in_ok-statements-in-Some-clause-fault
returns-in_ok-statements-in-Some-clause-fault c = rw (c.in-Some.is) c.in_ok-line-in-Some.ensures.fault
