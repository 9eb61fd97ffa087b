use Rattle.std.proofs.Common.{subst}
use Rattle.syntax.specs.Expressions.{ex_of}
use Rattle.type_faults.specs.Least.{IsLeast}
use Rattle.type_faults.proofs.Leasts.{least_join}
use Rattle.names.specs.Scope.{Scope}
use Rattle.expression_types.specs.Faults.{FailsInCondition}
use Rattle.types_go.proofs.heads.check_guard.Goals as goal

pub returns-clause-fault : goal.returns-clause-fault
returns-clause-fault c =
    rw (c.lesser.ensures)
    (least_join _ _ c.in_ok-init.init.fault c.in-Ok.test.fault c.in_ok-init.ensures.fault
    (subst (λ (v : Scope). IsLeast (FailsInCondition c.args.text.now v c.args.pos (ex_of c.args.guard.now.condition)) c.in-Ok.test.fault) c.in_ok-init.ensures.scope c.in-Ok.ensures.fault))
