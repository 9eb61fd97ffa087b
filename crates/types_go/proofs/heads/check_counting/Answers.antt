use Rattle.std.proofs.Common.{◌≡◌, subst}
use Rattle.syntax.specs.Statements.{simple_in, clause_of}
use Rattle.type_faults.specs.Least.{IsLeast}
use Rattle.type_faults.proofs.Leasts.{least_join}
use Rattle.names.specs.Scope.{Scope, scope_of}
use Rattle.expression_types.specs.Typing.{condition_in}
use Rattle.expression_types.specs.Faults.{FailsInTest}
use Rattle.types_go.proofs.heads.check_counting.Goals as goal
use Rattle.types_go.specs.Statements.{header}
use Rattle.types_go.specs.StatementFaults.{FailsInPost}

pub returns-clause-fault : goal.returns-clause-fault
returns-clause-fault c =
    let text = c.args.text.now in
    let head : scope_of c.check_init.new.scope ≡ header text (scope_of c.args.scope.now) (simple_in c.args.init.now) = c.in_ok-init.ensures.scope in
    rw (c.lesser-2.ensures, c.lesser.ensures)
    (least_join _ _ _ c.in-Ok-check_post.post.fault
    (least_join _ _ c.in_ok-init.init.fault c.in-Ok.test.fault c.in_ok-init.ensures.fault
    (subst (λ (v : Scope). IsLeast (FailsInTest text v c.args.pos (condition_in (clause_of c.args.clause.now))) c.in-Ok.test.fault) head c.in-Ok.ensures.fault))
    (subst (λ (v : Scope). IsLeast (FailsInPost text v (simple_in c.args.post.now)) c.in-Ok-check_post.post.fault) head c.in-Ok-check_post.ensures.fault))
