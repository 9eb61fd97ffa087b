use Rattle.std.proofs.Common.{◌≡◌, ℕ, ◌++◌, List, length, drop, sym, ap, ◌∙◌, arith}
use Rattle.syntax.specs.Declarations.{declaration_of}
use Rattle.type_faults.proofs.Leasts.{if_ok}
use Rattle.package_values.specs.declared.items.Item.{Item as ItemData}
use Rattle.package_values.specs.Values.{Item}
use Rattle.package_values.specs.Passing.{item_of, item_views, items_of_decl}
use Rattle.package_values.proofs.ItemLists.{many_views}
use Rattle.types_go.specs.Functions.{numbered}
use Rattle.types_go.specs.Passing.{member_views}
use Rattle.types_go.proofs.MemberLists.{behind_those}
use Rattle.types_go.proofs.members.add_declared.Goals as goal

pub returns-clause-members : goal.returns-clause-members
returns-clause-members c =
    let so_far = member_views c.args.members.now.items in
    let old = c.args.items.now.items in
    let new1 = c.add_decl.new.items.items in
    let here = items_of_decl (declaration_of c.args.decl.now) in
    let from = c.len-from.result in
    let from_is : from ≡ length old = omega (arith, c.len-from.ensures, c.args.items.now.ok) in
    if_ok _ _ c.add_variables.result
    (λ u e.
    e ∙ ap (λ (l : List ItemData). so_far ++ numbered from (item_views (drop from l))) c.deref.ensures.value ∙ ap (λ (k : ℕ). so_far ++ numbered k (item_views (drop k new1))) from_is
    ∙ ap (λ (l : List Item). so_far ++ numbered (length old) l) (behind_those item_of old new1 here c.in_ok-add_decl.ensures) ∙ ap (λ (k : ℕ). so_far ++ numbered k here) (sym (many_views item_of old))) c.add_variables.ensures
