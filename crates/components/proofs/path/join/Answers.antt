use Rattle.std.proofs.Common.{rules, ◌≡◌, ℕ, ◌-◌, List, [], ◌∷◌, ◌++◌, length, take, Some, sym, ap, ◌∙◌, arith}
use Rattle.std.specs.Prelude.{slice_get}
use Rattle.components.proofs.Lists.{before_last}
use Rattle.components.proofs.Joining.{joined_last, joining_more}
use Rattle.components.proofs.path.join.Goals as goal

pub returns-then-start-place : goal.returns-then-start-place
returns-then-start-place c =
    let starts = c.loop-start.starts.items in
    let at : slice_get starts (length starts - 1) ≡ Some c.in-Some.start = first_of (search rules, grind (arith)) in
    joined_last c.args.starts.now.items c.args.place starts (take (length starts - 1) starts) c.in-Some.start (before_last starts c.in-Some.start at) c.if-start-place.true c.loop-start.invariant

pub loop-start-preserved : goal.loop-start-preserved
loop-start-preserved c =
    let starts = c.loop-start.starts.items in
    let at : slice_get starts (length starts - 1) ≡ Some c.in-Some.start = first_of (search rules, grind (arith)) in
    let rest : c.pop.new.self.items ≡ take (length starts - 1) starts = first_of (search rules, grind (arith)) in
    joining_more c.args.starts.now.items c.args.place starts c.pop.new.self.items c.in-Some.start (before_last starts c.in-Some.start at ∙ ap (λ (l : List ℕ). l ++ c.in-Some.start ∷ []) (sym rest)) (omega (arith, c.if-start-place.false)) c.loop-start.invariant
