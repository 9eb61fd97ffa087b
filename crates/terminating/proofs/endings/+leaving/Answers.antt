use Rattle.std.proofs.Common.{◌≡◌, Bool, true, false, [], ◌∷◌, ◌+◌, List, drop, sym, ap, ◌∙◌, refl, arith}
use Rattle.std.specs.Prelude.{◌||◌}
use Rattle.syntax.specs.declared.statement.Stmt.{Stmt}
use Rattle.syntax.specs.Statements.{stm_of, stms_of}
use Rattle.type_faults.proofs.Lists.{from_one, nothing_left}
use Rattle.terminating.proofs.endings.+leaving.Goals as goal
use Rattle.terminating.specs.Terminating.{leaves, leaves_any}

or_false : (b : Bool) → (b || false) ≡ b
or_false true = refl
or_false false = refl

pub leaves_any-loop-s-preserved : goal.leaves_any-loop-s-preserved
leaves_any-loop-s-preserved t c =
    let xs = c.args.ms.now in
    let m : Stmt = c.s-item.result in
    let k = c.loop-s.s-index in
    let rest = drop (k + 1) xs in
    let here : drop k xs ≡ m ∷ rest = from_one xs k m c.loop-s-test.true c.s-item.is in
    let kept : leaves_any (stms_of xs) ≡ (c.loop-s.any || (leaves (stm_of m) || leaves_any (stms_of rest))) = c.loop-s.invariant ∙ ap (λ (l : List Stmt). c.loop-s.any || leaves_any (stms_of l)) here in
    grind (arith, kept)

pub leaves_any-returns : goal.leaves_any-returns
leaves_any-returns t c =
    let xs = c.args.ms.now in
    let k = c.loop-s.s-index in
    let none : drop k xs ≡ [] = nothing_left xs k (λ l. absurd (omega (arith, l, c.loop-s-test.false))) in
    sym (c.loop-s.invariant ∙ ap (λ (l : List Stmt). c.loop-s.any || leaves_any (stms_of l)) none ∙ or_false c.loop-s.any)
