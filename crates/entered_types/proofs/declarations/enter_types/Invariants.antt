use Rattle.std.proofs.Common.{◌≡◌, drop}
use Rattle.syntax.specs.Declarations.{declarations_of}
use Rattle.names.specs.Scope.{scope_of}
use Rattle.entered_types.specs.Entered.{entered_all}
use Rattle.entered_types.proofs.declarations.enter_types.Given as goal

abbrev pub invariant-loop-decl : goal.invariant-loop-decl
invariant-loop-decl l = entered_all l.text (scope_of l.fn.scope) (declarations_of l.decls) ≡ entered_all l.text (scope_of l.scope) (declarations_of (drop l.decl-index l.decls))
