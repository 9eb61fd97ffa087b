use Rattle.std.proofs.Common.{◌⊎◌, IfOk, subst}
use Rattle.syntax.specs.declared.statement.Clause.{Clause}
use Rattle.syntax.specs.Statements.{simple_in, clause_of}
use Rattle.type_faults.specs.Least.{IsLeast}
use Rattle.names.specs.Scope.{scope_of}
use Rattle.expression_types.specs.Typing.{condition_in}
use Rattle.expression_types.specs.Faults.{FailsInTest}
use Rattle.types_go.proofs.heads.check_clause.Goals as goal
use Rattle.types_go.specs.Statements.{header}
use Rattle.types_go.specs.StatementFaults.{FailsInInit, FailsInPost}

pub returns-in-While-clause-fault : goal.returns-in-While-clause-fault
returns-in-While-clause-fault c = rw (c.in-While.is) c.check_while.ensures.fault

pub returns-in-Counting-clause-fault : goal.returns-in-Counting-clause-fault
returns-in-Counting-clause-fault c =
    let text = c.args.text.now in
    let s = scope_of c.args.scope.now in
    let init = simple_in c.in-Counting.init in
    let post = simple_in c.in-Counting.post in
    let h = header text s init in
    rw (c.in-Counting.is)
    (subst (λ (k : Clause). IfOk c.check_counting.result (λ r. IsLeast (λ f. (FailsInInit text s init f ⊎ FailsInTest text h c.args.pos (condition_in (clause_of k)) f) ⊎ FailsInPost text h post f) r.fault)) c.in-Counting.is
    c.check_counting.ensures.fault)

pub returns-in-Range-clause-fault : goal.returns-in-Range-clause-fault
returns-in-Range-clause-fault c = rw (c.in-Range.is) c.check_ranging.ensures.fault
