use Rattle.std.proofs.Common.{◌≡◌, List, ap, ◌∙◌, subst}
use Rattle.syntax.specs.Declarations.{TypeSpec, declarations_of}
use Rattle.type_faults.specs.Least.{IsLeast}
use Rattle.type_faults.proofs.Leasts.{if_ok}
use Rattle.declared_structs.specs.Faults.{StructsOpen, type_specs_in}
use Rattle.declared_structs.specs.Passing.{spec_views}
use Rattle.declared_structs.proofs.open_structs.structs_open.Goals as goal

pub returns : goal.returns
returns c =
    let T = c.args.types.now in
    let views : spec_views c.deref.result.now ≡ type_specs_in (declarations_of c.args.decls.now) =
    ap spec_views c.deref.ensures.value ∙ c.in_ok-specs.ensures in
    if_ok _ _ c.each_open.result
    (λ r e. subst (λ (l : List TypeSpec). IsLeast (StructsOpen T 0 l) r) views e) c.each_open.ensures
