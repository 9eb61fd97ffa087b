use Rattle.std.proofs.Common.{◌≡◌, [], ◌++◌, List, drop, sym, ap, ◌∙◌, append-nil, arith}
use Rattle.syntax.specs.declared.declaration.Decl.{Decl}
use Rattle.syntax.specs.Declarations.{declarations_of}
use Rattle.type_faults.proofs.Lists.{nothing_left}
use Rattle.declared_structs.specs.Faults.{type_specs_in}
use Rattle.declared_structs.specs.Passing.{spec_views}
use Rattle.declared_structs.proofs.type_specs.type_specs.Goals as goal

pub returns : goal.returns
returns c =
    let xs = c.args.decls.now in
    let k = c.loop-decl.decl-index in
    let so_far = spec_views c.loop-decl.specs.items in
    let none : drop k xs ≡ [] = nothing_left xs k (λ l. absurd (omega (arith, l, c.loop-decl-test.false))) in
    sym (c.loop-decl.invariant ∙ ap (λ (l : List Decl). so_far ++ type_specs_in (declarations_of l)) none ∙ append-nil so_far)
