use Rattle.std.proofs.Common.{◌≡◌, ℕ, [], ◌∷◌, ◌+◌, ◌++◌, List, None, drop, get_or, refl, sym, ap, ◌∙◌, append-nil, arith}
use Rattle.syntax.specs.declared.expression.Name.{Name}
use Rattle.syntax.specs.Expressions.{exs_of, ex_in}
use Rattle.type_faults.proofs.Lists.{from_there, nothing_left}
use Rattle.names.proofs.Places.{no_name}
use Rattle.package_values.specs.Values.{unvalued}
use Rattle.package_values.specs.Passing.{item_views}
use Rattle.package_values.proofs.ItemLists.{pushed}
use Rattle.package_values.proofs.items.add_unvalued.Goals as goal

pub loop-index-preserved : goal.loop-index-preserved
loop-index-preserved c =
    let r = c.args.role in
    let t = ex_in c.args.type_expr.now in
    let all = exs_of c.args.values.now in
    let ns = c.args.names.now in
    let k = c.loop-index.index in
    let n : Name = get_or ns k no_name in
    let so_far = c.loop-index.items.items in
    let one : 1 + k ≡ k + 1 = omega arith in
    let here : drop k ns ≡ n ∷ drop (k + 1) ns = from_there ns k no_name c.loop-index-test.true in
    rw (c.in_ok-push.ensures.items)
    (pushed so_far _ (record { role = r; name = n; names = ns; place = k; type_expr = t; value = None; values = all }) _ (unvalued r ns t all (k + 1) (drop (k + 1) ns)) refl
    (c.loop-index.invariant ∙ ap (λ (l : List Name). item_views so_far ++ unvalued r ns t all k l) here
    ∙ ap (λ (j : ℕ). item_views so_far ++ (record { role = r; name = n; names = ns; place = k; type_expr = t; value = None; values = all } ∷ unvalued r ns t all j (drop (k + 1) ns))) one))

pub returns : goal.returns
returns c =
    let r = c.args.role in
    let t = ex_in c.args.type_expr.now in
    let all = exs_of c.args.values.now in
    let ns = c.args.names.now in
    let k = c.loop-index.index in
    let so_far = c.loop-index.items.items in
    let none : drop k ns ≡ [] = nothing_left ns k (λ l. absurd (omega (arith, l, c.loop-index-test.false))) in
    sym (c.loop-index.invariant ∙ ap (λ (l : List Name). item_views so_far ++ unvalued r ns t all k l) none ∙ append-nil (item_views so_far))
