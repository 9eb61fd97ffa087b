use Rattle.std.proofs.Common.{◌≡◌, IfOk, Option, Some, rules, sym, subst}
use Rattle.syntax.specs.Expressions.{Ex, ex_of}
use Rattle.syntax.specs.Statements.{clause_of}
use Rattle.type_faults.specs.Least.{IsLeast}
use Rattle.names.specs.Scope.{scope_of}
use Rattle.expression_types.specs.Typing.{condition_in}
use Rattle.expression_types.specs.Faults.{FailsInTest}
use Rattle.expression_types.proofs.conditions.check_test.Goals as goal

pub returns-in-While-clause-fault : goal.returns-in-While-clause-fault
returns-in-While-clause-fault c =
    let there : condition_in (clause_of c.args.clause.now) ≡ Some (ex_of c.in-While.e) = search rules in
    subst (λ (o : Option Ex). IfOk c.check_present.result (λ r. IsLeast (FailsInTest c.args.text.now (scope_of c.args.scope.now) c.args.pos o) r.fault)) (sym there) c.check_present.ensures.fault

pub returns-in-Counting-default-Some-default-clause-fault : goal.returns-in-Counting-default-Some-default-clause-fault
returns-in-Counting-default-Some-default-clause-fault c =
    let here = c.in-Counting-default-Some-default in
    let there : condition_in (clause_of c.args.clause.now) ≡ Some (ex_of here.e) = search rules in
    subst (λ (o : Option Ex). IfOk c.check_present-in-Counting-default-Some-default.result (λ r. IsLeast (FailsInTest c.args.text.now (scope_of c.args.scope.now) c.args.pos o) r.fault)) (sym there)
    c.check_present-in-Counting-default-Some-default.ensures.fault
