use Rattle.std.proofs.Common.{rules, ◌≡◌, [], ◌∷◌, ◌+◌, List, drop, sym, ap, ◌∙◌, arith}
use Rattle.components.specs.declared.component.Component.{Component}
use Rattle.components.specs.Components.{component_lists}
use Rattle.names.specs.Scope.{Scope, scope_of}
use Rattle.type_faults.proofs.Lists.{from_one, nothing_left}
use Rattle.package_values.specs.Passing.{item_views, each_given, all_given}
use Rattle.package_values.proofs.values.settle_all.Goals as goal

pub loop-component-preserved : goal.loop-component-preserved
loop-component-preserved c =
    let text = c.args.text.now in
    let is = item_views c.args.items.now in
    let s = scope_of c.loop-component.scope in
    let xs = c.args.components.now in
    let k = c.loop-component.component-index in
    let x : Component = c.component-item.result in
    let here : drop k xs ≡ x ∷ drop (k + 1) xs = from_one xs k x c.loop-component-test.true c.component-item.is in
    let given : scope_of c.settle_each.new.scope ≡ each_given text is s x.nodes.items = search rules in
    c.loop-component.invariant ∙ ap (λ (l : List Component). all_given text is s (component_lists l)) here ∙ ap (λ (r : Scope). all_given text is r (component_lists (drop (k + 1) xs))) (sym given)

pub returns : goal.returns
returns c =
    let text = c.args.text.now in
    let is = item_views c.args.items.now in
    let s = scope_of c.loop-component.scope in
    let xs = c.args.components.now in
    let k = c.loop-component.component-index in
    let none : drop k xs ≡ [] = nothing_left xs k (λ l. absurd (omega (arith, l, c.loop-component-test.false))) in
    sym (c.loop-component.invariant ∙ ap (λ (l : List Component). all_given text is s (component_lists l)) none)
