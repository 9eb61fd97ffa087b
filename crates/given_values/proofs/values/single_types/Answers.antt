use Rattle.std.proofs.Common.{◌≡◌, [], ◌∷◌, ◌+◌, List, Option, drop, arith, sym, ap, ◌∙◌}
use Rattle.std.specs.Prelude.{option_and_then}
use Rattle.std.specs.Option.{option_map}
use Rattle.base.specs.declared.value_type.ValueType.{ValueType}
use Rattle.operators.specs.Operands.{type_of}
use Rattle.given_values.specs.declared.gives.Item.{Item}
use Rattle.given_values.specs.Given.{single_types, operand_in}
use Rattle.type_faults.specs.Given.{with_last}
use Rattle.given_values.specs.Passing.{gives_of, seens}
use Rattle.type_faults.proofs.Lists.{from_one, nothing_left, joined, joined_start, joined_more, joined_none}
use Rattle.given_values.proofs.values.single_types.Goals as goal

pub loop-item-init : goal.loop-item-init
loop-item-init c = rw (c.new.ensures.items) (sym (joined_start (single_types (seens c.args.items.now))))

pub loop-item-preserved : goal.loop-item-preserved
loop-item-preserved c =
    let xs = c.args.items.now in
    let item : Item = c.item-item.result in
    let k = c.loop-item.item-index in
    let here : drop k xs ≡ item ∷ drop (k + 1) xs = from_one xs k item c.loop-item-test.true c.item-item.is in
    let before : Option (List ValueType) = option_map (λ v. v.items) c.loop-item.types in
    let rest = single_types (seens (drop (k + 1) xs)) in
    let x = operand_in (option_map gives_of item.gives) in
    let kept : single_types (seens xs) ≡ joined before (single_types (seens (item ∷ drop (k + 1) xs))) = c.loop-item.invariant ∙ ap (λ (l : List Item). joined before (single_types (seens l))) here in
    kept ∙ joined_more before (option_and_then type_of x) rest ∙ ap (λ o. joined o rest) (sym (c.in_ok-types.ensures ∙ ap (with_last before) c.one_type.ensures))

pub returns : goal.returns
returns c =
    let xs = c.args.items.now in
    let k = c.loop-item.item-index in
    let none : drop k xs ≡ [] = nothing_left xs k (λ l. absurd (omega (arith, l, c.loop-item-test.false))) in
    sym (c.loop-item.invariant ∙ ap (λ (l : List Item). joined (option_map (λ v. v.items) c.loop-item.types) (single_types (seens l))) none ∙ joined_none (option_map (λ v. v.items) c.loop-item.types))
