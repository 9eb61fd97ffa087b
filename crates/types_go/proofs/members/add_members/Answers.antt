use Rattle.std.proofs.Common.{◌≡◌, [], ◌++◌, length, refl, sym, ap, ◌∙◌, subst, append-nil}
use Rattle.syntax.specs.declared.declaration.Decl.{Decl}
use Rattle.syntax.specs.Declarations.{declaration_of}
use Rattle.type_faults.proofs.Leasts.{if_ok}
use Rattle.names.specs.Scope.{scope_of}
use Rattle.package_values.specs.Passing.{item_views, items_of_decl}
use Rattle.types_go.specs.Functions.{numbered}
use Rattle.types_go.specs.Passing.{member_views, members_of_decl}
use Rattle.types_go.proofs.members.add_members.Goals as goal

pub returns-in-Const-clause-members : goal.returns-in-Const-clause-members
returns-in-Const-clause-members c =
    let so_far = member_views c.args.members.now.items in
    let k = length (item_views c.args.items.now.items) in
    if_ok _ _ c.add_decl.result
    (λ u e.
    sym (append-nil so_far) ∙ ap (λ l. so_far ++ l) (subst (λ (x : Decl). [] ≡ members_of_decl c.args.text.now (scope_of c.args.heads.now) k (declaration_of x)) (sym c.in-Const.is) refl)) c.add_decl.ensures

pub returns-in-Var-clause-members : goal.returns-in-Var-clause-members
returns-in-Var-clause-members c =
    let so_far = member_views c.args.members.now.items in
    let k = length (item_views c.args.items.now.items) in
    if_ok _ _ c.add_declared.result
    (λ u e.
    e ∙ ap (λ l. so_far ++ l)
    (subst (λ (x : Decl). numbered k (items_of_decl (declaration_of x)) ≡ members_of_decl c.args.text.now (scope_of c.args.heads.now) k (declaration_of x)) (sym c.in-Var.is) refl)) c.add_declared.ensures.members

pub returns-in-Type-clause-members : goal.returns-in-Type-clause-members
returns-in-Type-clause-members c = rw (c.in-Type.is) (sym (append-nil (member_views c.args.members.now.items)))

pub returns-in-Type-clause-items : goal.returns-in-Type-clause-items
returns-in-Type-clause-items c = rw (c.in-Type.is) (sym (append-nil (item_views c.args.items.now.items)))

pub returns-in-Func-clause-members : goal.returns-in-Func-clause-members
returns-in-Func-clause-members c = rw (c.in-Func.is) c.add_function.ensures

pub returns-in-Func-clause-items : goal.returns-in-Func-clause-items
returns-in-Func-clause-items c =
    let so_far = item_views c.args.items.now.items in
    if_ok _ _ c.add_function.result (λ u e. sym (append-nil so_far) ∙ ap (λ l. so_far ++ l) (subst (λ (x : Decl). [] ≡ items_of_decl (declaration_of x)) (sym c.in-Func.is) refl)) c.add_function.ensures
