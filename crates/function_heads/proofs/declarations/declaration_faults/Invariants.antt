use Rattle.std.proofs.Common.{drop}
use Rattle.syntax.specs.Declarations.{declarations_of}
use Rattle.type_faults.proofs.Leasts.{Kept}
use Rattle.names.specs.Scope.{scope_of}
use Rattle.function_heads.proofs.declarations.declaration_faults.Given as goal
use Rattle.function_heads.specs.HeadFaults.{DeclarationsFail}

abbrev pub invariant-loop-decl : goal.invariant-loop-decl
invariant-loop-decl l = Kept (DeclarationsFail l.text (scope_of l.heads) (scope_of l.scope) (declarations_of l.decls)) (DeclarationsFail l.text (scope_of l.heads) (scope_of l.scope) (declarations_of (drop l.decl-index l.decls))) l.fault
