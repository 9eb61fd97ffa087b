use Rattle.std.proofs.Common.{rules, ◌≡◌, ℕ, List, length, map, sym, ◌∙◌, subst}
use Rattle.components.specs.Graph.{rows}
use Rattle.components.specs.Components.{component_lists, AreComponents}
use Rattle.names.specs.Scope.{scope_of}
use Rattle.package_values.specs.Values.{Item, settled}
use Rattle.package_values.specs.Needs.{mentioned}
use Rattle.package_values.specs.Passing.{item_views, all_given}
use Rattle.package_values.proofs.Ordered.{pass_is}
use Rattle.package_values.proofs.values.settle.Goals as goal

pub returns : goal.returns
returns c =
    let text = c.args.text.now in
    let s = scope_of c.args.scope.now in
    let is = item_views c.in_ok-items.items.items in
    let parts = component_lists c.in_ok-found.found.components.items in
    let graph : rows c.in_ok-named.named.items ≡ map (mentioned text s) is = search rules in
    let are : AreComponents (rows c.in_ok-named.named.items) parts = search rules in
    let given : scope_of c.settle_all.new.scope ≡ all_given text is s parts = search rules in
    let items_is = c.in_ok-items.ensures in
    subst (λ (items : List Item). scope_of c.settle_all.new.scope ≡ settled text s items) items_is
    (given ∙ pass_is text s is parts (subst (λ (t : List (List ℕ)). AreComponents t parts) graph are)
    (subst (λ (items : List Item). length s.values ≡ length items) (sym items_is) c.requires.as_many) c.requires.unknown)
