use Rattle.std.proofs.Common.{◌≡◌, ℕ, ◌<◌, ◌≤◌, ◌∷◌, ◌+◌, ◌++◌, List, Some, drop, length, min, get_or, refl, sym, ap, ◌∙◌, append-nil, arith}
use Rattle.syntax.specs.declared.expression.Name.{Name}
use Rattle.syntax.specs.declared.expression.Expr.{Expr}
use Rattle.syntax.specs.Expressions.{exs_of, ex_of, ex_in}
use Rattle.type_faults.proofs.Lists.{from_there, from_one}
use Rattle.names.proofs.Places.{no_name}
use Rattle.package_values.specs.Passing.{item_views, pairs}
use Rattle.package_values.proofs.ItemLists.{pushed, no_pairs}
use Rattle.package_values.proofs.items.add_valued.Goals as goal

pub loop-index-preserved : goal.loop-index-preserved
loop-index-preserved c =
    let r = c.args.role in
    let t = ex_in c.args.type_expr.now in
    let all = exs_of c.args.values.now in
    let ns = c.args.names.now in
    let es = c.args.values.now in
    let k = c.loop-index.index in
    let n : Name = get_or ns k no_name in
    let e : Expr = c.index-values-index.result in
    let so_far = c.loop-index.items.items in
    let l : k < length ns = omega (arith, c.loop-index-test.true, c.min-index-end.ensures) in
    let m : k < length es = omega (arith, c.loop-index-test.true, c.min-index-end.ensures) in
    let one : 1 + k ≡ k + 1 = omega arith in
    let here : drop k ns ≡ n ∷ drop (k + 1) ns = from_there ns k no_name l in
    let there : drop k es ≡ e ∷ drop (k + 1) es = from_one es k e m c.index-values-index.is in
    rw (c.in_ok-push.ensures.items)
    (pushed so_far _ (record { role = r; name = n; names = ns; place = k; type_expr = t; value = Some (ex_of e); values = all }) _ (pairs r ns t all (k + 1) (drop (k + 1) ns) (drop (k + 1) es)) refl
    (c.loop-index.invariant ∙ ap (λ (l : List Name). item_views so_far ++ pairs r ns t all k l (drop k es)) here ∙ ap (λ (l : List Expr). item_views so_far ++ pairs r ns t all k (n ∷ drop (k + 1) ns) l) there
    ∙ ap (λ (j : ℕ). item_views so_far ++ (record { role = r; name = n; names = ns; place = k; type_expr = t; value = Some (ex_of e); values = all } ∷ pairs r ns t all j (drop (k + 1) ns) (drop (k + 1) es))) one))

pub returns : goal.returns
returns c =
    let r = c.args.role in
    let t = ex_in c.args.type_expr.now in
    let all = exs_of c.args.values.now in
    let ns = c.args.names.now in
    let es = c.args.values.now in
    let k = c.loop-index.index in
    let so_far = c.loop-index.items.items in
    let end : min (length ns) (length es) ≤ k = omega (arith, c.loop-index-test.false, c.min-index-end.ensures) in
    sym (c.loop-index.invariant ∙ ap (λ l. item_views so_far ++ l) (no_pairs r ns t all k ns es k end) ∙ append-nil (item_views so_far))
