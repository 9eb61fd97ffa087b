use Rattle.std.proofs.Common.{◌≡◌, [], ◌∷◌, ◌+◌, List, drop, sym, ap, ◌∙◌, arith}
use Rattle.syntax.specs.declared.statement.Stmt.{Stmt}
use Rattle.syntax.specs.Statements.{stms_of}
use Rattle.type_faults.proofs.Lists.{from_one, nothing_left}
use Rattle.names.specs.Scope.{scope_of}
use Rattle.entered_types.specs.Entered.{entered_statements}
use Rattle.entered_types.proofs.statements.+statements.Goals as goal

pub enter_stmts-loop-s-preserved : goal.enter_stmts-loop-s-preserved
enter_stmts-loop-s-preserved t c =
    let text = c.args.text.now in
    let xs = c.args.ms.now in
    let k = c.loop-s.s-index in
    let x : Stmt = c.s-item.result in
    let here : drop k xs ≡ x ∷ drop (k + 1) xs = from_one xs k x c.loop-s-test.true c.s-item.is in
    rw (c.in_ok-enter_stmt.ensures) (c.loop-s.invariant ∙ ap (λ (l : List Stmt). entered_statements text (scope_of c.loop-s.scope) (stms_of l)) here)

pub enter_stmts-returns : goal.enter_stmts-returns
enter_stmts-returns t c =
    let text = c.args.text.now in
    let xs = c.args.ms.now in
    let k = c.loop-s.s-index in
    let none : drop k xs ≡ [] = nothing_left xs k (λ l. absurd (omega (arith, l, c.loop-s-test.false))) in
    sym (c.loop-s.invariant ∙ ap (λ (l : List Stmt). entered_statements text (scope_of c.loop-s.scope) (stms_of l)) none)
