use Rattle.std.proofs.Common.{◌≡◌, ◌++◌, List, length, ap, ◌∙◌, arith}
use Rattle.syntax.specs.declared.expression.Name.{Name}
use Rattle.syntax.specs.declared.expression.Expr.{Expr}
use Rattle.syntax.specs.Expressions.{exs_of, ex_in}
use Rattle.type_faults.proofs.Leasts.{if_ok}
use Rattle.package_values.specs.Values.{Item, unvalued}
use Rattle.package_values.specs.Passing.{item_views, pairs}
use Rattle.package_values.proofs.ItemLists.{items_valued, items_unvalued}
use Rattle.package_values.proofs.items.add_spec.Goals as goal

pub returns-then-len : goal.returns-then-len
returns-then-len c =
    let r = c.args.role in
    let v = c.args.spec.now in
    let t = ex_in v.type_expr in
    let so_far = item_views c.args.items.now.items in
    let many : length v.names.items ≡ length v.values.items = omega (arith, c.if-len.true, c.len.ensures, c.len-2.ensures, v.names.ok, v.values.ok) in
    if_ok _ _ c.add_valued.result
    (λ u e.
    e ∙ ap (λ (l : List Name). so_far ++ pairs r l t (exs_of c.deref-then-len.result.now) 0 l c.deref-then-len.result.now) c.deref.ensures.value
    ∙ ap (λ (l : List Expr). so_far ++ pairs r v.names.items t (exs_of l) 0 v.names.items l) c.deref-then-len.ensures.value
    ∙ ap (λ (l : List Item). so_far ++ l) (items_valued r v many)) c.add_valued.ensures

pub returns-else-len : goal.returns-else-len
returns-else-len c =
    let r = c.args.role in
    let v = c.args.spec.now in
    let t = ex_in v.type_expr in
    let so_far = item_views c.args.items.now.items in
    if_ok _ _ c.add_unvalued.result
    (λ u e.
    e ∙ ap (λ (l : List Name). so_far ++ unvalued r l t (exs_of c.deref-else-len-2.result.now) 0 l) c.deref-else-len.ensures.value
    ∙ ap (λ (l : List Expr). so_far ++ unvalued r v.names.items t (exs_of l) 0 v.names.items) c.deref-else-len-2.ensures.value
    ∙ ap (λ (l : List Item). so_far ++ l) (items_unvalued r v (λ is. c.if-len.false (omega (arith, is, c.len.ensures, c.len-2.ensures, v.names.ok, v.values.ok))))) c.add_unvalued.ensures
