use Rattle.std.proofs.Common.{rules, ◌≡◌, ◌+◌, length, refl, ap, ◌∙◌, arith}
use Rattle.syntax.specs.Declarations.{declarations_of}
use Rattle.names.specs.Scope.{Scope, scope_of, known, beginning}
use Rattle.function_heads.specs.PackageBlock.{with_items}
use Rattle.package_values.specs.Values.{items_in}
use Rattle.types_go.proofs.Package.{values_long, values_unknown}
use Rattle.types_go.proofs.pass.package_block.Goals as goal

pub settle-requires-clause-as_many : goal.settle-requires-clause-as_many
settle-requires-clause-as_many c =
    let text = c.args.text.now in
    let heads = scope_of c.args.heads.now in
    let ds = declarations_of c.args.decls.now in
    let first : Scope = record beginning { types = c.args.types } in
    let is : scope_of c.add_items.new.scope ≡ with_items text heads first ds = search rules in
    let none : 0 + length (items_in ds) ≡ length (items_in ds) = omega arith in
    ap (λ (r : Scope). length r.values) is ∙ (values_long text heads first ds ∙ none)

pub settle-requires-clause-unknown : goal.settle-requires-clause-unknown
settle-requires-clause-unknown c =
    let text = c.args.text.now in
    let heads = scope_of c.args.heads.now in
    let ds = declarations_of c.args.decls.now in
    let first : Scope = record beginning { types = c.args.types } in
    let is : scope_of c.add_items.new.scope ≡ with_items text heads first ds = search rules in
    λ k. ap (λ (r : Scope). known r k) is ∙ values_unknown text heads first ds (λ j. refl) k
