use Rattle.std.proofs.Common.{◌≡◌, drop}
use Rattle.syntax.specs.Declarations.{declarations_of}
use Rattle.names.specs.Scope.{scope_of}
use Rattle.function_heads.proofs.package_block.add_items.Given as goal
use Rattle.function_heads.specs.PackageBlock.{with_items}

abbrev pub invariant-loop-decl : goal.invariant-loop-decl
invariant-loop-decl l = with_items l.text (scope_of l.heads) (scope_of l.fn.scope) (declarations_of l.decls) ≡ with_items l.text (scope_of l.heads) (scope_of l.scope) (declarations_of (drop l.decl-index l.decls))
