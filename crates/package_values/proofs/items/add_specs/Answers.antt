use Rattle.std.proofs.Common.{◌≡◌, [], ◌∷◌, ◌+◌, ◌++◌, List, drop, sym, ap, ◌∙◌, append-nil, arith}
use Rattle.syntax.specs.declared.statement.ValueSpec.{ValueSpec}
use Rattle.syntax.specs.Statements.{value_spec_of, value_specs_of}
use Rattle.type_faults.proofs.Lists.{from_one, nothing_left}
use Rattle.package_values.specs.Values.{items_of, items_in_specs}
use Rattle.package_values.specs.Passing.{item_views}
use Rattle.package_values.proofs.ItemLists.{joined}
use Rattle.package_values.proofs.items.add_specs.Goals as goal

pub loop-spec-preserved : goal.loop-spec-preserved
loop-spec-preserved c =
    let r = c.args.role in
    let xs = c.args.specs.now in
    let k = c.loop-spec.spec-index in
    let x : ValueSpec = c.spec-item.result in
    let so_far = item_views c.loop-spec.items.items in
    let here : drop k xs ≡ x ∷ drop (k + 1) xs = from_one xs k x c.loop-spec-test.true c.spec-item.is in
    joined _ so_far (items_of r (value_spec_of x)) (items_in_specs r (value_specs_of (drop (k + 1) xs))) _ c.in_ok-add_spec.ensures
    (c.loop-spec.invariant ∙ ap (λ (l : List ValueSpec). so_far ++ items_in_specs r (value_specs_of l)) here)

pub returns : goal.returns
returns c =
    let r = c.args.role in
    let xs = c.args.specs.now in
    let k = c.loop-spec.spec-index in
    let so_far = item_views c.loop-spec.items.items in
    let none : drop k xs ≡ [] = nothing_left xs k (λ l. absurd (omega (arith, l, c.loop-spec-test.false))) in
    sym (c.loop-spec.invariant ∙ ap (λ (l : List ValueSpec). so_far ++ items_in_specs r (value_specs_of l)) none ∙ append-nil so_far)
