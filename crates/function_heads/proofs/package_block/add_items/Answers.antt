use Rattle.std.proofs.Common.{◌≡◌, [], ◌∷◌, ◌+◌, List, drop, sym, ap, ◌∙◌, arith}
use Rattle.syntax.specs.declared.declaration.Decl.{Decl}
use Rattle.syntax.specs.Declarations.{declarations_of}
use Rattle.names.specs.Scope.{scope_of}
use Rattle.type_faults.proofs.Lists.{from_one, nothing_left}
use Rattle.function_heads.proofs.package_block.add_items.Goals as goal
use Rattle.function_heads.specs.PackageBlock.{with_items}

pub loop-decl-preserved : goal.loop-decl-preserved
loop-decl-preserved c =
    let text = c.args.text.now in
    let heads = scope_of c.args.heads.now in
    let xs = c.args.decls.now in
    let k = c.loop-decl.decl-index in
    let x : Decl = c.decl-item.result in
    let here : drop k xs ≡ x ∷ drop (k + 1) xs = from_one xs k x c.loop-decl-test.true c.decl-item.is in
    rw (c.in_ok-add_item.ensures) (c.loop-decl.invariant ∙ ap (λ (l : List Decl). with_items text heads (scope_of c.loop-decl.scope) (declarations_of l)) here)

pub returns : goal.returns
returns c =
    let text = c.args.text.now in
    let heads = scope_of c.args.heads.now in
    let xs = c.args.decls.now in
    let k = c.loop-decl.decl-index in
    let none : drop k xs ≡ [] = nothing_left xs k (λ l. absurd (omega (arith, l, c.loop-decl-test.false))) in
    sym (c.loop-decl.invariant ∙ ap (λ (l : List Decl). with_items text heads (scope_of c.loop-decl.scope) (declarations_of l)) none)
