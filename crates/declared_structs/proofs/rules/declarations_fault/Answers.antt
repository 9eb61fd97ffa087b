use Rattle.std.proofs.Common.{◌≡◌, List, ap, ◌∙◌, subst}
use Rattle.syntax.specs.Declarations.{TypeSpec, declarations_of}
use Rattle.type_faults.specs.Least.{IsLeast}
use Rattle.type_faults.proofs.Leasts.{if_ok}
use Rattle.names.specs.Scope.{scope_of}
use Rattle.declared_structs.specs.Faults.{StructsFail, type_specs_in}
use Rattle.declared_structs.specs.Passing.{spec_views}
use Rattle.declared_structs.proofs.rules.declarations_fault.Goals as goal

pub returns : goal.returns
returns c =
    let text = c.args.text.now in
    let s = scope_of c.args.scope.now in
    let views : spec_views c.deref.result.now ≡ type_specs_in (declarations_of c.args.decls.now) = ap spec_views c.deref.ensures.value ∙ c.in_ok-specs.ensures in
    if_ok _ _ c.structs_fault.result (λ r e. subst (λ (l : List TypeSpec). IsLeast (StructsFail text s 0 l) r) views e) c.structs_fault.ensures
