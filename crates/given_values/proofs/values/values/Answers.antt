use Rattle.std.proofs.Common.{◌≡◌, [], ◌∷◌, List, Option, rules, sym, ap, ◌∙◌, map, length, arith}
use Rattle.std.specs.Option.{option_map}
use Rattle.std.specs.Vec.Iter.{into_iter_items}
use Rattle.typed.specs.declared.expr.Expr.{Expr}
use Rattle.typed_syntax.specs.Syntax.{Ex}
use Rattle.typed.specs.View.{ex_of}
use Rattle.given_values.specs.declared.gives.Item.{Item}
use Rattle.given_values.specs.Given.{values, value_in}
use Rattle.type_faults.specs.Given.{with_last}
use Rattle.given_values.specs.Passing.{gives_of, seens}
use Rattle.type_faults.proofs.Lists.{joined, joined_start, joined_more, joined_none, with_last_map, no_items}
use Rattle.given_values.proofs.values.values.Goals as goal

pub loop-item-init : goal.loop-item-init
loop-item-init c =
    let began = c.into_iter-item-iterator.ensures.into_iter_gives in
    let same : into_iter_items c.into_iter-item-iterator.result ≡ c.args.items.items = search rules in
    (rw (c.new.ensures.items, same) (sym (joined_start (values (seens c.args.items.items)))), search (rules, began))

pub loop-item-preserved : goal.loop-item-preserved
loop-item-preserved c =
    let all = values (seens c.args.items.items) in
    let old = into_iter_items c.loop-item.item-iterator in
    let rest = into_iter_items c.next.new.self in
    let item : Item = c.in-Some.item in
    let before : Option (List Expr) = option_map (λ v. v.items) c.loop-item.values in
    let step = c.in-Some.ensures.steps in
    let front : old ≡ item ∷ rest = step.0 in
    let mapped : Option (List Ex) = option_map (λ (v : List Expr). map ex_of v) before in
    let kept : all ≡ joined (option_map (λ v. map ex_of v.items) c.loop-item.values) (values (seens (item ∷ rest))) = c.loop-item.invariant.0 ∙ ap (λ (l : List Item). joined (option_map (λ v. map ex_of v.items) c.loop-item.values) (values (seens l))) front in
    let value : option_map ex_of c.value_of-value.result ≡ value_in (option_map gives_of item.gives) = search rules in
    let one : option_map (λ v. map ex_of v.items) c.in_ok-values.values ≡ with_last (option_map (λ v. map ex_of v.items) c.loop-item.values) (option_map ex_of c.value_of-value.result) =
    with_last_map ex_of c.loop-item.values c.value_of-value.result c.in_ok-values.values c.in_ok-values.ensures in (
      kept ∙ joined_more (option_map (λ v. map ex_of v.items) c.loop-item.values) (value_in (option_map gives_of item.gives)) (values (seens rest)) ∙ ap (λ o. joined o (values (seens rest))) (sym (one ∙ ap (with_last (option_map (λ v. map ex_of v.items) c.loop-item.values)) value)),
      omega (arith, step.1, c.loop-item.invariant.1, ap length front),
    )

pub returns : goal.returns
returns c =
    let old = into_iter_items c.loop-item.item-iterator in
    let empty : old ≡ [] = no_items old (omega (arith, c.in-None.ensures.steps.0, c.loop-item.invariant.1)) in
    sym (c.loop-item.invariant.0 ∙ ap (λ (l : List Item). joined (option_map (λ v. map ex_of v.items) c.loop-item.values) (values (seens l))) empty ∙ joined_none (option_map (λ v. map ex_of v.items) c.loop-item.values))
