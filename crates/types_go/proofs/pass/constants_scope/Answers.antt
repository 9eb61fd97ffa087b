use Rattle.std.proofs.Common.{rules, ◌≡◌, ◌+◌, length, refl, ap, ◌∙◌, arith}
use Rattle.syntax.specs.Declarations.{declarations_of}
use Rattle.names.specs.Scope.{Scope, scope_of, known, beginning}
use Rattle.package_values.specs.Values.{items_in}
use Rattle.signatures.specs.Signatures.{with_heads}
use Rattle.types_go.proofs.Package.{heads_long, heads_unknown}
use Rattle.types_go.proofs.pass.constants_scope.Goals as goal

pub settle-requires-clause-as_many : goal.settle-requires-clause-as_many
settle-requires-clause-as_many c =
    let text = c.args.text.now in
    let ds = declarations_of c.args.decls.now in
    let is : scope_of c.add_heads.new.heads ≡ with_heads text beginning ds = search rules in
    let none : 0 + length (items_in ds) ≡ length (items_in ds) = omega arith in
    ap (λ (r : Scope). length r.values) is ∙ (heads_long text beginning ds ∙ none)

pub settle-requires-clause-unknown : goal.settle-requires-clause-unknown
settle-requires-clause-unknown c =
    let text = c.args.text.now in
    let ds = declarations_of c.args.decls.now in
    let is : scope_of c.add_heads.new.heads ≡ with_heads text beginning ds = search rules in
    λ k. ap (λ (r : Scope). known r k) is ∙ heads_unknown text beginning ds (λ j. refl) k
