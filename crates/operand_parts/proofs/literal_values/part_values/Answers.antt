use Rattle.std.proofs.Common.{◌≡◌, [], ◌∷◌, List, rules, sym, ap, ◌∙◌, map, length, arith}
use Rattle.std.specs.Option.{option_map}
use Rattle.std.specs.Vec.Iter.{into_iter_items}
use Rattle.type_faults.specs.Given.{with_last}
use Rattle.type_faults.proofs.Lists.{joined, joined_start, joined_more, joined_none, with_last_map, no_items}
use Rattle.operators.specs.Passing.{operand_of}
use Rattle.operand_parts.specs.declared.literal_values.Placed.{Placed}
use Rattle.operand_parts.specs.LiteralValues.{value_of_part, part_values}
use Rattle.operand_parts.specs.Passing.{placeds, part_value_of}
use Rattle.operand_parts.proofs.literal_values.part_values.Goals as goal

pub loop-element-init : goal.loop-element-init
loop-element-init c =
    let began = c.into_iter-element-iterator.ensures.into_iter_gives in
    let same : into_iter_items c.into_iter-element-iterator.result ≡ c.args.placed.items = search rules in
    (rw (c.new.ensures.items, same) (sym (joined_start (part_values (placeds c.args.placed.items)))), search (rules, began))

pub loop-element-preserved : goal.loop-element-preserved
loop-element-preserved c =
    let all = part_values (placeds c.args.placed.items) in
    let old = into_iter_items c.loop-element.element-iterator in
    let rest = into_iter_items c.next.new.self in
    let q : Placed = c.in-Some.element in
    let step = c.in-Some.ensures.steps in
    let front : old ≡ q ∷ rest = step.0 in
    let kept : all ≡ joined (option_map (λ v. map part_value_of v.items) c.loop-element.values) (part_values (placeds (q ∷ rest))) =
    c.loop-element.invariant.0 ∙ ap (λ (l : List Placed). joined (option_map (λ v. map part_value_of v.items) c.loop-element.values) (part_values (placeds l))) front in
    let value : option_map part_value_of c.value_of_part.result ≡ value_of_part q.part (option_map operand_of q.operand) = search rules in
    let one : option_map (λ v. map part_value_of v.items) c.in_ok-values.values ≡ with_last (option_map (λ v. map part_value_of v.items) c.loop-element.values) (option_map part_value_of c.value_of_part.result) =
    with_last_map part_value_of c.loop-element.values c.value_of_part.result c.in_ok-values.values c.in_ok-values.ensures in (
      kept ∙ joined_more (option_map (λ v. map part_value_of v.items) c.loop-element.values) (value_of_part q.part (option_map operand_of q.operand)) (part_values (placeds rest))
          ∙ ap (λ o. joined o (part_values (placeds rest))) (sym (one ∙ ap (with_last (option_map (λ v. map part_value_of v.items) c.loop-element.values)) value)),
      omega (arith, step.1, c.loop-element.invariant.1, ap length front),
    )

pub returns : goal.returns
returns c =
    let old = into_iter_items c.loop-element.element-iterator in
    let empty : old ≡ [] = no_items old (omega (arith, c.in-None.ensures.steps.0, c.loop-element.invariant.1)) in
    sym (c.loop-element.invariant.0 ∙ ap (λ (l : List Placed). joined (option_map (λ v. map part_value_of v.items) c.loop-element.values) (part_values (placeds l))) empty
    ∙ joined_none (option_map (λ v. map part_value_of v.items) c.loop-element.values))
