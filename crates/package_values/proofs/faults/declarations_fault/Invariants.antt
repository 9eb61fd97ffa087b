use Rattle.std.proofs.Common.{drop}
use Rattle.syntax.specs.Declarations.{declarations_of}
use Rattle.type_faults.proofs.Leasts.{Kept}
use Rattle.names.specs.Scope.{scope_of}
use Rattle.package_values.specs.ValueFaults.{DeclarationsFail}
use Rattle.package_values.proofs.faults.declarations_fault.Given as goal

abbrev pub invariant-loop-decl : goal.invariant-loop-decl
invariant-loop-decl l = Kept (DeclarationsFail l.text (scope_of l.scope) (declarations_of l.decls)) (DeclarationsFail l.text (scope_of l.scope) (declarations_of (drop l.decl-index l.decls))) l.fault
