use Rattle.std.proofs.Common.{◌≡◌, ap, ◌∙◌, subst}
use Rattle.type_faults.specs.Least.{IsLeast}
use Rattle.base.specs.declared.pos.Pos.{Pos}
use Rattle.syntax.specs.Expressions.{exs_of}
use Rattle.type_faults.specs.declared.fault.FaultKind.TheVariants.{WrongCount}
use Rattle.type_faults.specs.Faults.{fault}
use Rattle.names.specs.Scope.{scope_of}
use Rattle.expression_types.specs.Typing.{seen}
use Rattle.given_values.specs.GivenFaults.{TakeFails}
use Rattle.given_values.specs.Passing.{seens}
use Rattle.simple_statements.proofs.statements.check_define.Goals as goal
use Rattle.simple_statements.specs.SimpleFaults.{names_place}
use Rattle.simple_statements.specs.SimpleStatements.{all_new_wanted}
use Rattle.simple_statements.proofs.LeastSimple.{define_least}

pub returns-clause-fault : goal.returns-clause-fault
returns-clause-fault c =
    let text = c.args.text.now in
    let s = scope_of c.args.scope.now in
    let ns = c.args.names.now in
    let es = exs_of c.args.es.now in
    let listed = c.in_ok-right.right in
    let ps : c.deref.result.now ≡ all_new_wanted text s ns = c.deref.ensures.value ∙ c.in_ok-wanted.ensures in
    let os : seens c.deref-2.result.now ≡ seen text s es = ap seens c.deref-2.ensures.value ∙ c.in_ok-right.ensures.seen in
    let taken : IsLeast (TakeFails (fault WrongCount (names_place ns c.args.pos)) c.deref.result.now (seens c.deref-2.result.now)) c.take_fault-values_fault.result =
    subst (λ (p : Pos). IsLeast (TakeFails (fault WrongCount p) c.deref.result.now (seens c.deref-2.result.now)) c.take_fault-values_fault.result) c.names_pos.ensures c.take_fault-values_fault.ensures in
    rw (c.lesser-2.ensures, c.lesser-before.ensures, c.lesser.ensures)
    (define_least text s ns c.args.pos es c.deref.result.now (seens c.deref-2.result.now) listed.fault c.take_fault-values_fault.result c.in_ok-left.left.fault c.in_ok-declaration.declaration.fault ps os
    c.in_ok-right.ensures.fault taken c.in_ok-left.ensures.fault c.in_ok-declaration.ensures.fault)
