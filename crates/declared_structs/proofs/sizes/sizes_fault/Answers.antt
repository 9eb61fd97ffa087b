use Rattle.std.proofs.Common.{◌≡◌, List, map, ap, sym, ◌∙◌, subst}
use Rattle.syntax.specs.Declarations.{TypeSpec, declarations_of}
use Rattle.type_faults.specs.Least.{IsLeast}
use Rattle.type_faults.proofs.Leasts.{if_ok}
use Rattle.names.specs.Scope.{scope_of}
use Rattle.declared_structs.specs.Forms.{structs_in}
use Rattle.declared_structs.specs.Faults.{SizesFail, type_specs_in}
use Rattle.declared_structs.specs.Passing.{spec_views, types_of}
use Rattle.declared_structs.proofs.Numbers.{structs_mapped, all_least}
use Rattle.declared_structs.proofs.sizes.sizes_fault.Goals as goal

pub returns : goal.returns
returns c =
    let text = c.args.text.now in
    let s = scope_of c.args.scope.now in
    let ds = declarations_of c.args.decls.now in
    let ss = structs_in text s ds in
    let table = c.requires.0 in
    let verdicts = c.requires.1 in
    let views : spec_views c.deref.result.now ≡ type_specs_in ds = ap spec_views c.deref.ensures.value ∙ c.in_ok-specs.ensures in
    if_ok _ _ c.each_fault.result (λ r e. all_least text s ds table r verdicts.is_table (subst (λ (l : List TypeSpec). IsLeast (SizesFail text s ss table 0 l) r) views e))
    (c.each_fault.ensures ss table verdicts (structs_mapped text s ds ∙ ap (map (types_of text s)) (sym views)))
