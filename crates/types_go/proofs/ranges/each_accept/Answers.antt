use Rattle.std.proofs.Common.{◌≡◌, ◌≤◌, min, Bool, true, false, ltb, [], ◌∷◌, ◌+◌, List, drop, get_or, length, sym, ap, ◌∙◌, refl, arith}
use Rattle.std.specs.Prelude.{◌&&◌}
use Rattle.std.proofs.lemmas.Bool.{ltb-true, ltb-false}
use Rattle.base.specs.declared.value_type.ValueType.{ValueType}
use Rattle.base.specs.declared.value_type.ValueType.TheVariants.{Int}
use Rattle.type_faults.proofs.Lists.{from_there, nothing_left, and_true}
use Rattle.given_values.specs.declared.wants.Wanted.{Wanted}
use Rattle.given_values.specs.declared.wants.Wanted.TheVariants as wants
use Rattle.types_go.proofs.ranges.each_accept.Goals as goal
use Rattle.types_go.specs.Ranges.{each_accept}

pub loop-index-init : goal.loop-index-init
loop-index-init c = refl

pub loop-index-preserved : goal.loop-index-preserved
loop-index-preserved c =
    let ts = c.args.types.now in
    let ps = c.args.wanted.now in
    let k = c.loop-index.index in
    let t : ValueType = get_or ts k Int in
    let p : Wanted = get_or ps k wants.Own in
    let first : drop k ts ≡ t ∷ drop (k + 1) ts = from_there ts k Int (omega (arith, c.loop-index-test.true, c.min-index-end.ensures)) in
    let here : drop k ps ≡ p ∷ drop (k + 1) ps = from_there ps k wants.Own (omega (arith, c.loop-index-test.true, c.min-index-end.ensures)) in
    let kept0 : each_accept ts ps ≡ (c.loop-index.all && each_accept (t ∷ drop (k + 1) ts) (drop k ps)) = c.loop-index.invariant ∙ ap (λ (l : List ValueType). c.loop-index.all && each_accept l (drop k ps)) first in
    let kept : each_accept ts ps ≡ (c.loop-index.all && each_accept (t ∷ drop (k + 1) ts) (p ∷ drop (k + 1) ps)) = kept0 ∙ ap (λ (l : List Wanted). c.loop-index.all && each_accept (t ∷ drop (k + 1) ts) l) here in
    grind (arith, kept)

-- after the last type or place nothing is asked
none_asked : (ts : List ValueType) (ps : List Wanted) → ps ≡ [] → each_accept ts ps ≡ true
none_asked [] ps is = refl
none_asked (t ∷ ts) [] is = refl
none_asked (t ∷ ts) (p ∷ ps) is = cc is

pub returns : goal.returns
returns c =
    let ts = c.args.types.now in
    let ps = c.args.wanted.now in
    let k = c.loop-index.index in
    let end : min (length ts) (length ps) ≤ k = omega (arith, c.loop-index-test.false, c.min-index-end.ensures) in
    sym (c.loop-index.invariant ∙ ap (λ b. c.loop-index.all && b) (by (ltb k (length ts)) refl end) ∙ and_true c.loop-index.all)
  where
    by : (b : Bool) → ltb c.loop-index.index (length c.args.types.now) ≡ b → min (length c.args.types.now) (length c.args.wanted.now) ≤ c.loop-index.index
        → each_accept (drop c.loop-index.index c.args.types.now) (drop c.loop-index.index c.args.wanted.now) ≡ true
    by true is end =
        let k = c.loop-index.index in
        none_asked (drop k c.args.types.now) (drop k c.args.wanted.now) (nothing_left c.args.wanted.now k (λ l. absurd (omega (arith, l, end, ltb-true k (length c.args.types.now) is))))
    by false is end =
        let k = c.loop-index.index in
        ap (λ (l : List ValueType). each_accept l (drop k c.args.wanted.now)) (nothing_left c.args.types.now k (λ l. absurd (omega (arith, l, ltb-false k (length c.args.types.now) is))))
