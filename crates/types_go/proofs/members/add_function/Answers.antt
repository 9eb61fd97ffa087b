use Rattle.std.proofs.Common.{◌≡◌, Bool, true, false, cond, [], ◌∷◌, ◌++◌, sym, ap, ◌∙◌, append-nil}
use Rattle.std.proofs.lemmas.List.{map-append}
use Rattle.syntax.specs.Declarations.{function_of}
use Rattle.names.specs.Scope.{scope_of}
use Rattle.function_heads.specs.PackageBlock.{is_external}
use Rattle.types_go.specs.Functions.{of_function}
use Rattle.types_go.specs.Passing.{member_of, member_views}
use Rattle.types_go.proofs.members.add_function.Goals as goal

pub returns-then-external : goal.returns-then-external
returns-then-external c =
    let so_far = member_views c.args.members.now.items in
    let g = function_of c.args.f.now in
    let is : is_external c.args.text.now (scope_of c.args.heads.now) g ≡ true = sym c.in_ok-external.ensures ∙ c.if-external.true in
    sym (append-nil so_far) ∙ ap (λ (b : Bool). so_far ++ cond b [] (of_function g ∷ [])) (sym is)

pub returns : goal.returns
returns c =
    let so_far = member_views c.args.members.now.items in
    let g = function_of c.args.f.now in
    let is : is_external c.args.text.now (scope_of c.args.heads.now) g ≡ false = sym c.in_ok-external.ensures ∙ c.if-external.false in
    rw (c.in_ok-push.ensures.items) (map-append member_of c.args.members.now.items (_ ∷ []) ∙ ap (λ (b : Bool). so_far ++ cond b [] (of_function g ∷ [])) (sym is))
