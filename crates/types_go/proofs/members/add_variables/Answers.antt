use Rattle.std.proofs.Common.{rules, ◌≡◌, ℕ, [], ◌∷◌, ◌+◌, ◌++◌, List, drop, sym, ap, ◌∙◌, append-nil, arith}
use Rattle.type_faults.proofs.Lists.{from_one, nothing_left}
use Rattle.package_values.specs.declared.items.Item.{Item as ItemData}
use Rattle.package_values.specs.Passing.{item_of, item_views}
use Rattle.package_values.proofs.ItemLists.{pushed_map}
use Rattle.types_go.specs.Functions.{of_variable, numbered}
use Rattle.types_go.specs.Passing.{member_of, member_views}
use Rattle.types_go.proofs.members.add_variables.Goals as goal

pub loop-index-preserved : goal.loop-index-preserved
loop-index-preserved c =
    let xs = c.args.items.now in
    let k = c.loop-index.index in
    let x : ItemData = c.index-items-index.result in
    let so_far = c.loop-index.members.items in
    let rest = item_views (drop (k + 1) xs) in
    let here : drop k xs ≡ x ∷ drop (k + 1) xs = from_one xs k x c.loop-index-test.true c.index-items-index.is in
    let number_is : c.in-Ok.number ≡ k = search rules in
    let one : 1 + k ≡ k + 1 = omega arith in
    rw (c.in_ok-push.ensures.items)
    (pushed_map member_of so_far _ (of_variable k (item_of x)) _ (numbered (k + 1) rest) (ap (λ (j : ℕ). of_variable j (item_of x)) number_is)
    (c.loop-index.invariant ∙ ap (λ (l : List ItemData). member_views so_far ++ numbered k (item_views l)) here ∙ ap (λ (j : ℕ). member_views so_far ++ (of_variable k (item_of x) ∷ numbered j rest)) one))

pub returns : goal.returns
returns c =
    let xs = c.args.items.now in
    let k = c.loop-index.index in
    let so_far = member_views c.loop-index.members.items in
    let none : drop k xs ≡ [] = nothing_left xs k (λ l. absurd (omega (arith, l, c.loop-index-test.false))) in
    sym (c.loop-index.invariant ∙ ap (λ (l : List ItemData). so_far ++ numbered k (item_views l)) none ∙ append-nil so_far)
