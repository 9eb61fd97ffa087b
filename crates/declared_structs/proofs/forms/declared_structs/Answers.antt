use Rattle.std.proofs.Common.{◌≡◌, [], ◌++◌, List, drop, sym, ap, ◌∙◌, append-nil, arith}
use Rattle.syntax.specs.declared.declaration.Decl.{Decl}
use Rattle.syntax.specs.Declarations.{declarations_of}
use Rattle.names.specs.Scope.{scope_of}
use Rattle.type_faults.proofs.Lists.{nothing_left}
use Rattle.struct_sizes.specs.Structs.{structs_of}
use Rattle.declared_structs.specs.Forms.{structs_in}
use Rattle.declared_structs.proofs.forms.declared_structs.Goals as goal

pub returns : goal.returns
returns c =
    let text = c.args.text.now in
    let s = scope_of c.args.scope.now in
    let xs = c.args.decls.now in
    let k = c.loop-decl.decl-index in
    let so_far = structs_of c.loop-decl.structs.items in
    let none : drop k xs ≡ [] = nothing_left xs k (λ l. absurd (omega (arith, l, c.loop-decl-test.false))) in
    sym (c.loop-decl.invariant ∙ ap (λ (l : List Decl). so_far ++ structs_in text s (declarations_of l)) none ∙ append-nil so_far)
