use Rattle.std.proofs.Common.{◌≡◌, ℕ, [], ◌∷◌, ◌+◌, ◌++◌, List, drop, map, sym, ap, ◌∙◌, append-nil, arith}
use Rattle.std.specs.Global.{Vec}
use Rattle.names.specs.Scope.{scope_of}
use Rattle.type_faults.proofs.Lists.{from_one, nothing_left}
use Rattle.package_values.specs.declared.items.Item.{Item as ItemData}
use Rattle.package_values.specs.Needs.{mentioned}
use Rattle.components.specs.Graph.{rows}
use Rattle.package_values.specs.Passing.{item_of, item_views}
use Rattle.package_values.proofs.ItemLists.{pushed_map}
use Rattle.package_values.proofs.needs.mentioned.Goals as goal

pub loop-index-preserved : goal.loop-index-preserved
loop-index-preserved c =
    let text = c.args.text.now in
    let s = scope_of c.args.scope.now in
    let xs = c.args.items.now in
    let k = c.loop-index.index in
    let x : ItemData = c.index-items-index.result in
    let so_far = c.loop-index.all.items in
    let rest = map (mentioned text s) (item_views (drop (k + 1) xs)) in
    let here : drop k xs ≡ x ∷ drop (k + 1) xs = from_one xs k x c.loop-index-test.true c.index-items-index.is in
    rw (c.in_ok-push.ensures.items)
    (pushed_map (λ (r : Vec ℕ). r.items) so_far c.in_ok-mentioned_by.field-0 (mentioned text s (item_of x)) _ rest c.in_ok-mentioned_by.ensures
    (c.loop-index.invariant ∙ ap (λ (l : List ItemData). rows so_far ++ map (mentioned text s) (item_views l)) here))

pub returns : goal.returns
returns c =
    let text = c.args.text.now in
    let s = scope_of c.args.scope.now in
    let xs = c.args.items.now in
    let k = c.loop-index.index in
    let so_far = rows c.loop-index.all.items in
    let none : drop k xs ≡ [] = nothing_left xs k (λ l. absurd (omega (arith, l, c.loop-index-test.false))) in
    sym (c.loop-index.invariant ∙ ap (λ (l : List ItemData). so_far ++ map (mentioned text s) (item_views l)) none ∙ append-nil so_far)
