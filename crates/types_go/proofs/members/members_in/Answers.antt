use Rattle.std.proofs.Common.{◌≡◌, [], ◌∷◌, ◌+◌, ◌++◌, List, length, drop, refl, sym, ap, ◌∙◌, append-nil, arith}
use Rattle.syntax.specs.declared.declaration.Decl.{Decl}
use Rattle.syntax.specs.Declarations.{declaration_of, declarations_of}
use Rattle.names.specs.Scope.{scope_of}
use Rattle.type_faults.proofs.Lists.{from_one, nothing_left}
use Rattle.package_values.specs.Passing.{item_views, items_of_decl}
use Rattle.types_go.specs.Functions.{members_in}
use Rattle.types_go.specs.Passing.{member_views}
use Rattle.types_go.proofs.MemberLists.{members_more}
use Rattle.types_go.proofs.members.members_in.Goals as goal

pub loop-decl-preserved : goal.loop-decl-preserved
loop-decl-preserved c =
    let text = c.args.text.now in
    let heads = scope_of c.args.heads.now in
    let xs = c.args.decls.now in
    let k = c.loop-decl.decl-index in
    let x : Decl = c.decl-item.result in
    let d = declaration_of x in
    let so_far = member_views c.loop-decl.members.items in
    let is = item_views c.loop-decl.items.items in
    let here : drop k xs ≡ x ∷ drop (k + 1) xs = from_one xs k x c.loop-decl-test.true c.decl-item.is in
    members_more text heads _ so_far _ is _ (items_of_decl d) d (declarations_of (drop (k + 1) xs)) refl
    (c.loop-decl.invariant ∙ ap (λ (l : List Decl). so_far ++ members_in text heads (length is) (declarations_of l)) here) c.in_ok-add_members.ensures.members c.in_ok-add_members.ensures.items

pub returns : goal.returns
returns c =
    let text = c.args.text.now in
    let heads = scope_of c.args.heads.now in
    let xs = c.args.decls.now in
    let k = c.loop-decl.decl-index in
    let so_far = member_views c.loop-decl.members.items in
    let none : drop k xs ≡ [] = nothing_left xs k (λ l. absurd (omega (arith, l, c.loop-decl-test.false))) in
    sym (c.loop-decl.invariant ∙ ap (λ (l : List Decl). so_far ++ members_in text heads (length (item_views c.loop-decl.items.items)) (declarations_of l)) none ∙ append-nil so_far)
