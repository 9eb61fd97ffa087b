use Rattle.std.proofs.Common.{◌≡◌, ap, ◌∙◌}
use Rattle.syntax.specs.Declarations.{Syntax, declarations_of}
use Rattle.names.specs.Scope.{Scope, scope_of, beginning}
use Rattle.package_values.specs.Values.{items_in, settled}
use Rattle.function_heads.specs.PackageBlock.{with_items}
use Rattle.types_go.specs.Functions.{IsHeads, package_scope, members}
use Rattle.types_go.specs.Passing.{member_views, syntax_with}
use Rattle.types_go.proofs.OneHeads.{one_heads}
use Rattle.types_go.proofs.Passed.{Found, passed}
use Rattle.types_go.proofs.pass.pass.Goals as goal

pub returns : goal.returns
returns c =
    let text = c.args.text.now in
    let ds = declarations_of c.args.decls.now in
    let t : Syntax = syntax_with text c.args.own_name ds in
    let h = scope_of c.in_ok-heads.field-0.heads in
    let is_heads : IsHeads t h = c.in_ok-heads.ensures.heads c.args.own_name in
    let others = scope_of c.in_ok-others.field-0.heads in
    let others_is : others ≡ h = one_heads t others h (c.in_ok-others.ensures.heads c.args.own_name) is_heads in
    let r = scope_of c.in_ok-scope.scope in
    let r_is : r ≡ package_scope t h =
    c.in_ok-scope.ensures ∙ ap (λ (v : Scope). settled text (with_items text h (record beginning { types = v.types }) ds) (items_in ds)) others_is in
    let ms = member_views c.deref.result.now in
    let ms_is : ms ≡ members t h = ap member_views c.deref.ensures.value ∙ c.in_ok-members.ensures in
    let behind = scope_of c.check_members.new.scope in
    let gs = c.in_ok-checked.checked.globals.items in
    let found : Found t h r ms c.in_ok-main.main c.in_ok-checked.checked.funcs behind gs c.in_ok-declared.declared c.in_ok-checked.checked.fault = record {
      main_is = c.in_ok-main.ensures;
      funcs_are = c.in_ok-checked.ensures.funcs;
      places = c.in_ok-checked.ensures.places;
      behind_is = c.in_ok-checked.ensures.scope;
      globals_are = c.in_ok-checked.ensures.globals;
      sizes = c.in_ok-heads.field-0.sizes_fault;
      in_sizes = c.in_ok-heads.ensures.sizes c.args.own_name;
      in_package = c.in_ok-declared.ensures;
      functions_fail = c.in_ok-checked.ensures.fault;
    } in
    rw (c.rule_or_open.ensures, c.lesser-rules.ensures, c.lesser.ensures)
    (passed t h is_heads c.in_ok-heads.ensures.formed c.in_ok-main.main c.in_ok-checked.checked.funcs behind gs c.in_ok-declared.declared
    c.in_ok-checked.checked.fault r ms r_is ms_is found c.is_none.result c.no_main_fault-main_fault.result c.is_none.ensures
    c.no_main_fault-main_fault.ensures c.in_ok-open.open (c.in_ok-open.ensures c.args.own_name))
