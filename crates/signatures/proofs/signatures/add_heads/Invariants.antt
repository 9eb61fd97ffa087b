use Rattle.std.proofs.Common.{◌≡◌, drop}
use Rattle.syntax.specs.Declarations.{declarations_of}
use Rattle.names.specs.Scope.{scope_of}
use Rattle.signatures.proofs.signatures.add_heads.Given as goal
use Rattle.signatures.specs.Signatures.{with_heads}

abbrev pub invariant-loop-decl : goal.invariant-loop-decl
invariant-loop-decl l = with_heads l.text (scope_of l.fn.heads) (declarations_of l.decls) ≡ with_heads l.text (scope_of l.heads) (declarations_of (drop l.decl-index l.decls))
