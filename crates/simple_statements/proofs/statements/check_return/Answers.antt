use Rattle.std.proofs.Common.{◌≡◌, List, ap, ◌∙◌, subst}
use Rattle.type_faults.specs.Least.{IsLeast}
use Rattle.syntax.specs.Expressions.{exs_of}
use Rattle.type_faults.proofs.Leasts.{least_join}
use Rattle.names.specs.Scope.{scope_of}
use Rattle.given_values.specs.Given.{Seen}
use Rattle.expression_types.specs.Typing.{seen}
use Rattle.expression_types.specs.Faults.{FailsInEach}
use Rattle.given_values.specs.Passing.{seens}
use Rattle.simple_statements.proofs.statements.check_return.Goals as goal
use Rattle.simple_statements.specs.SimpleStatements.{returns_view}
use Rattle.simple_statements.specs.SimpleFaults.{ReturnFails}

pub returns-clause-fault : goal.returns-clause-fault
returns-clause-fault c =
    let text = c.args.text.now in
    let s = scope_of c.args.scope.now in
    let es = exs_of c.args.es.now in
    let listed = c.in_ok-listed.listed in
    let os : seens c.deref.result.now ≡ seen text s es = ap seens c.deref.ensures.value ∙ c.in_ok-listed.ensures.seen in
    rw (c.lesser.ensures) (least_join (FailsInEach text s es) (ReturnFails c.args.pos (returns_view c.args.returns.now) (seen text s es)) listed.fault c.return_fault-own.result c.in_ok-listed.ensures.fault
    (subst (λ (l : List Seen). IsLeast (ReturnFails c.args.pos (returns_view c.args.returns.now) l) c.return_fault-own.result) os c.return_fault-own.ensures))
