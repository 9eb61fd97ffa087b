use Rattle.std.proofs.Common.{sym, subst}
use Rattle.syntax.specs.declared.statement.Simple.{Simple}
use Rattle.syntax.specs.Statements.{simple_of}
use Rattle.type_faults.proofs.Leasts.{if_ok}
use Rattle.names.specs.Scope.{scope_of}
use Rattle.types_go.proofs.heads.check_post_simple.Goals as goal
use Rattle.simple_statements.proofs.InFormSimple.{DeclaresNone}
use Rattle.types_go.proofs.StatementLines.{post_least}

pub returns-in-Express-clause-fault : goal.returns-in-Express-clause-fault
returns-in-Express-clause-fault c =
    if_ok _ _ c.check_simple.result
    (λ k e. post_least c.args.text.now (scope_of c.args.scope.now) (simple_of c.args.simple.now) k.fault (subst (λ (m : Simple). DeclaresNone (simple_of m)) (sym c.in-Express.is) tt) e) c.check_simple.ensures.fault

pub returns-in-Assign-clause-fault : goal.returns-in-Assign-clause-fault
returns-in-Assign-clause-fault c =
    if_ok _ _ c.check_simple-in-Assign.result
    (λ k e. post_least c.args.text.now (scope_of c.args.scope.now) (simple_of c.args.simple.now) k.fault (subst (λ (m : Simple). DeclaresNone (simple_of m)) (sym c.in-Assign.is) tt) e) c.check_simple-in-Assign.ensures.fault

pub returns-in-Update-clause-fault : goal.returns-in-Update-clause-fault
returns-in-Update-clause-fault c =
    if_ok _ _ c.check_simple-in-Update.result
    (λ k e. post_least c.args.text.now (scope_of c.args.scope.now) (simple_of c.args.simple.now) k.fault (subst (λ (m : Simple). DeclaresNone (simple_of m)) (sym c.in-Update.is) tt) e) c.check_simple-in-Update.ensures.fault

pub returns-in-Increment-clause-fault : goal.returns-in-Increment-clause-fault
returns-in-Increment-clause-fault c =
    if_ok _ _ c.check_simple-in-Increment.result
    (λ k e. post_least c.args.text.now (scope_of c.args.scope.now) (simple_of c.args.simple.now) k.fault (subst (λ (m : Simple). DeclaresNone (simple_of m)) (sym c.in-Increment.is) tt) e) c.check_simple-in-Increment.ensures.fault

pub returns-in-Decrement-clause-fault : goal.returns-in-Decrement-clause-fault
returns-in-Decrement-clause-fault c =
    if_ok _ _ c.check_simple-in-Decrement.result
    (λ k e. post_least c.args.text.now (scope_of c.args.scope.now) (simple_of c.args.simple.now) k.fault (subst (λ (m : Simple). DeclaresNone (simple_of m)) (sym c.in-Decrement.is) tt) e) c.check_simple-in-Decrement.ensures.fault
