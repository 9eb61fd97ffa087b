use Rattle.std.proofs.Common.{◌≡◌, [], ◌∷◌, List, Option, rules, sym, ap, ◌∙◌, map, length, arith}
use Rattle.std.specs.Option.{option_map}
use Rattle.std.specs.Vec.Iter.{into_iter_items}
use Rattle.given_values.specs.declared.gives.Part.{Part as PartData}
use Rattle.given_values.specs.declared.gives.Item.{Item}
use Rattle.given_values.specs.Given.{Part, parts, part_in}
use Rattle.type_faults.specs.Given.{with_last}
use Rattle.given_values.specs.Passing.{part_view, gives_of, seens}
use Rattle.type_faults.proofs.Lists.{joined, joined_start, joined_more, joined_none, with_last_map, no_items}
use Rattle.given_values.proofs.values.parts.Goals as goal

pub loop-item-init : goal.loop-item-init
loop-item-init c =
    let began = c.into_iter-item-iterator.ensures.into_iter_gives in
    let same : into_iter_items c.into_iter-item-iterator.result ≡ c.args.items.items = search rules in
    (rw (c.new.ensures.items, same) (sym (joined_start (parts (seens c.args.items.items)))), search (rules, began))

pub loop-item-preserved : goal.loop-item-preserved
loop-item-preserved c =
    let all = parts (seens c.args.items.items) in
    let old = into_iter_items c.loop-item.item-iterator in
    let rest = into_iter_items c.next.new.self in
    let item : Item = c.in-Some.item in
    let before : Option (List PartData) = option_map (λ v. v.items) c.loop-item.parts in
    let step = c.in-Some.ensures.steps in
    let front : old ≡ item ∷ rest = step.0 in
    let mapped : Option (List Part) = option_map (λ (v : List PartData). map part_view v) before in
    let kept : all ≡ joined (option_map (λ v. map part_view v.items) c.loop-item.parts) (parts (seens (item ∷ rest))) = c.loop-item.invariant.0 ∙ ap (λ (l : List Item). joined (option_map (λ v. map part_view v.items) c.loop-item.parts) (parts (seens l))) front in
    let value : option_map part_view c.part_in.result ≡ part_in (option_map gives_of item.gives) = search rules in
    let one : option_map (λ v. map part_view v.items) c.in_ok-parts.parts ≡ with_last (option_map (λ v. map part_view v.items) c.loop-item.parts) (option_map part_view c.part_in.result) =
    with_last_map part_view c.loop-item.parts c.part_in.result c.in_ok-parts.parts c.in_ok-parts.ensures in (
      kept ∙ joined_more (option_map (λ v. map part_view v.items) c.loop-item.parts) (part_in (option_map gives_of item.gives)) (parts (seens rest)) ∙ ap (λ o. joined o (parts (seens rest))) (sym (one ∙ ap (with_last (option_map (λ v. map part_view v.items) c.loop-item.parts)) value)),
      omega (arith, step.1, c.loop-item.invariant.1, ap length front),
    )

pub returns : goal.returns
returns c =
    let old = into_iter_items c.loop-item.item-iterator in
    let empty : old ≡ [] = no_items old (omega (arith, c.in-None.ensures.steps.0, c.loop-item.invariant.1)) in
    sym (c.loop-item.invariant.0 ∙ ap (λ (l : List Item). joined (option_map (λ v. map part_view v.items) c.loop-item.parts) (parts (seens l))) empty ∙ joined_none (option_map (λ v. map part_view v.items) c.loop-item.parts))
