use Rattle.std.proofs.Common.{◌≡◌, [], ◌∷◌, ◌+◌, List, drop, arith, sym, ap, ◌∙◌, refl}
use Rattle.std.specs.Prelude.{◌&&◌}
use Rattle.given_values.specs.declared.gives.Item.{Item}
use Rattle.given_values.specs.Given.{are_single}
use Rattle.given_values.specs.Passing.{seens}
use Rattle.type_faults.proofs.Lists.{from_one, nothing_left, and_true}
use Rattle.given_values.proofs.values.are_single.Goals as goal

pub loop-item-init : goal.loop-item-init
loop-item-init c = refl

pub loop-item-preserved : goal.loop-item-preserved
loop-item-preserved c =
    let xs = c.args.items.now in
    let item : Item = c.item-item.result in
    let k = c.loop-item.item-index in
    let here : drop k xs ≡ item ∷ drop (k + 1) xs = from_one xs k item c.loop-item-test.true c.item-item.is in
    let kept : are_single (seens xs) ≡ (c.loop-item.all && are_single (seens (item ∷ drop (k + 1) xs))) = c.loop-item.invariant ∙ ap (λ (l : List Item). c.loop-item.all && are_single (seens l)) here in
    grind (arith, kept)

pub returns : goal.returns
returns c =
    let xs = c.args.items.now in
    let k = c.loop-item.item-index in
    let none : drop k xs ≡ [] = nothing_left xs k (λ l. absurd (omega (arith, l, c.loop-item-test.false))) in
    sym (c.loop-item.invariant ∙ ap (λ (l : List Item). c.loop-item.all && are_single (seens l)) none ∙ and_true c.loop-item.all)
