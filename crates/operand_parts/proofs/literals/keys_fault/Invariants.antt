use Rattle.std.proofs.Common.{drop}
use Rattle.std.specs.Prelude.{[], ◌∷◌}
use Rattle.syntax.specs.Expressions.{elements_of}
use Rattle.names.specs.Scope.{scope_of}
use Rattle.type_faults.proofs.Leasts.{Kept}
use Rattle.operand_parts.specs.LiteralFaults.{KeysFail}
use Rattle.operand_parts.proofs.literals.keys_fault.Given as goal

abbrev pub invariant-loop-element : goal.invariant-loop-element
invariant-loop-element l =
    Kept (KeysFail l.text (scope_of l.scope) l.whole ([] ∷ []) (elements_of l.elements)) (KeysFail l.text (scope_of l.scope) l.whole l.before (elements_of (drop l.element-index l.elements))) l.fault
