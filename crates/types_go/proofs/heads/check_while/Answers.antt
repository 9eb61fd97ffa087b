use Rattle.std.proofs.Common.{subst}
use Rattle.syntax.specs.Expressions.{ex_of}
use Rattle.type_faults.specs.Least.{IsLeast}
use Rattle.expression_types.specs.Faults.{FailsInCondition}
use Rattle.types_go.proofs.heads.check_while.Goals as goal

pub returns-clause-fault : goal.returns-clause-fault
returns-clause-fault c = subst (λ v. IsLeast (FailsInCondition c.args.text.now v c.args.pos (ex_of c.args.e.now)) c.in_ok-test.test.fault) c.in_ok-open.ensures c.in_ok-test.ensures.fault
