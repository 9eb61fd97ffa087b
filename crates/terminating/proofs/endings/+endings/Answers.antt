use Rattle.std.proofs.Common.{◌≡◌, [], ◌∷◌, ◌+◌, List, drop, sym, ap, ◌∙◌, arith}
use Rattle.syntax.specs.declared.statement.Stmt.{Stmt}
use Rattle.syntax.specs.Statements.{stms_of}
use Rattle.names.specs.Scope.{scope_of}
use Rattle.type_faults.proofs.Lists.{from_one, nothing_left}
use Rattle.terminating.proofs.endings.+endings.Goals as goal
use Rattle.terminating.specs.Terminating.{ends_after}

pub ends_in_terminating-loop-s-preserved : goal.ends_in_terminating-loop-s-preserved
ends_in_terminating-loop-s-preserved t c =
    let xs = c.args.ms.now in
    let m : Stmt = c.s-item.result in
    let k = c.loop-s.s-index in
    let here : drop k xs ≡ m ∷ drop (k + 1) xs = from_one xs k m c.loop-s-test.true c.s-item.is in
    rw (c.is_terminating-ends.ensures) (c.loop-s.invariant ∙ ap (λ (l : List Stmt). ends_after c.args.text.now (scope_of c.args.scope.now) c.loop-s.ends (stms_of l)) here)

pub ends_in_terminating-returns : goal.ends_in_terminating-returns
ends_in_terminating-returns t c =
    let xs = c.args.ms.now in
    let k = c.loop-s.s-index in
    let none : drop k xs ≡ [] = nothing_left xs k (λ l. absurd (omega (arith, l, c.loop-s-test.false))) in
    sym (c.loop-s.invariant ∙ ap (λ (l : List Stmt). ends_after c.args.text.now (scope_of c.args.scope.now) c.loop-s.ends (stms_of l)) none)
