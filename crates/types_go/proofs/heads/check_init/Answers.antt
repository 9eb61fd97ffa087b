use Rattle.std.proofs.Common.{subst}
use Rattle.syntax.specs.Statements.{simple_of}
use Rattle.type_faults.specs.Least.{IsLeast}
use Rattle.names.specs.Scope.{Scope}
use Rattle.types_go.proofs.heads.check_init.Goals as goal
use Rattle.simple_statements.specs.SimpleFaults.{FailsInSimple}

pub returns-in_ok-line-in-Some-clause-fault : goal.returns-in_ok-line-in-Some-clause-fault
returns-in_ok-line-in-Some-clause-fault c =
    rw (c.in-Some.is) (subst (λ (v : Scope). IsLeast (FailsInSimple c.args.text.now v (simple_of c.in-Some.simple)) c.in_ok-line-in-Some.line.fault) c.in_ok-open.ensures c.in_ok-line-in-Some.ensures.fault)
