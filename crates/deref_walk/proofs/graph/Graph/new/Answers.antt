use Rattle.std.proofs.Common.{◌≡◌, ℕ, ◌<◌, List, Some, ℤ, negsuc, ◌≤ℤ◌, ◌<ℤ◌, length, get_or, sym, subst, arith}
use Rattle.std.specs.Prelude.{slice_get}
use Rattle.std.proofs.lemmas.Int.{ints}
use Rattle.std.proofs.lemmas.Option.{slice_get_within, slice_get-get_or, get_or_from_slice_get}
use Rattle.deref_walk.specs.declared.graph.Edge.{Edge}
use Rattle.deref_walk.specs.Weights.{AreWeights}
use Rattle.deref_walk.proofs.graph.Graph.new.Goals as goal
use borrow.Author.Count.{below_more}

abbrev IsHigh : List Edge → ℕ → Type 0
IsHigh edges k = (e : Edge) → slice_get edges k ≡ Some e → negsuc 0 ≤ℤ e.weight

not_both : (w : ℤ) → w <ℤ negsuc 0 → negsuc 0 ≤ℤ w → ⊥
not_both w low high = omega (arith, ints)

high_here : (edges : List Edge) (i : ℕ) (d : Edge) → negsuc 0 ≤ℤ (get_or edges i d).weight → IsHigh edges i
high_here edges i d high e at = subst (λ (x : Edge). negsuc 0 ≤ℤ x.weight) (get_or_from_slice_get edges i e d at) high

pub returns-then-is_low-clause-refused : goal.returns-then-is_low-clause-refused
returns-then-is_low-clause-refused c _ all =
    let xs = c.deref-edge-items.result.now in
    let i = c.loop-edge.edge-index in
    let high_all : AreWeights xs = subst AreWeights (sym c.deref-edge-items.ensures.value) all in
    not_both _ (c.is_low.ensures.low c.if-is_low.true) (high_all i _ (slice_get-get_or xs i _ c.loop-edge-test.true))

pub loop-edge-preserved : goal.loop-edge-preserved
loop-edge-preserved c = λ k e less at.
    let xs = c.deref-edge-items.result.now in
    let i = c.loop-edge.edge-index in
    below_more (IsHigh xs) i (λ j below f there. c.loop-edge.invariant j f below there) (high_here xs i _ (c.is_low.ensures.high c.if-is_low.false)) k less e at

pub invariant_of-result : goal.invariant_of-result
invariant_of-result c =
    let xs = c.deref-edge-items.result.now in
    let all : AreWeights xs = λ k e at. c.loop-edge.invariant k e (let within : k < length xs = slice_get_within xs k e at in let test = c.loop-edge-test.false in omega arith) at in
    record { weights = subst AreWeights c.deref-edge-items.ensures.value all }
