use Rattle.std.proofs.Common.{◌≡◌, [], ◌∷◌, ◌+◌, ◌++◌, List, drop, sym, ap, ◌∙◌, append-nil, arith}
use Rattle.syntax.specs.declared.declaration.Decl.{Decl}
use Rattle.syntax.specs.Declarations.{declaration_of, declarations_of}
use Rattle.type_faults.proofs.Lists.{from_one, nothing_left}
use Rattle.package_values.specs.Values.{items_in}
use Rattle.package_values.specs.Passing.{item_views, items_of_decl}
use Rattle.package_values.proofs.ItemLists.{joined, items_one}
use Rattle.package_values.proofs.items.items_in.Goals as goal

pub loop-decl-preserved : goal.loop-decl-preserved
loop-decl-preserved c =
    let xs = c.args.decls.now in
    let k = c.loop-decl.decl-index in
    let x : Decl = c.decl-item.result in
    let so_far = item_views c.loop-decl.items.items in
    let rest = declarations_of (drop (k + 1) xs) in
    let here : drop k xs ≡ x ∷ drop (k + 1) xs = from_one xs k x c.loop-decl-test.true c.decl-item.is in
    joined _ so_far (items_of_decl (declaration_of x)) (items_in rest) _ c.in_ok-add_decl.ensures
    (c.loop-decl.invariant ∙ ap (λ (l : List Decl). so_far ++ items_in (declarations_of l)) here ∙ ap (λ l. so_far ++ l) (items_one (declaration_of x) rest))

pub returns : goal.returns
returns c =
    let xs = c.args.decls.now in
    let k = c.loop-decl.decl-index in
    let so_far = item_views c.loop-decl.items.items in
    let none : drop k xs ≡ [] = nothing_left xs k (λ l. absurd (omega (arith, l, c.loop-decl-test.false))) in
    sym (c.loop-decl.invariant ∙ ap (λ (l : List Decl). so_far ++ items_in (declarations_of l)) none ∙ append-nil so_far)
