use Rattle.std.proofs.Common.{◌≡◌, ◌++◌, drop}
use Rattle.syntax.specs.Expressions.{exs_of, elements_of}
use Rattle.type_faults.proofs.Leasts.{Kept}
use Rattle.names.specs.Scope.{scope_of}
use Rattle.expression_types.specs.Typing.{seen, placed}
use Rattle.expression_types.specs.Faults.{FailsInEach, FailsInElements}
use Rattle.operand_parts.specs.Passing.{placeds}
use Rattle.given_values.specs.Passing.{seens}
use Rattle.expression_types.proofs.expressions.+expressions.Given as goal

abbrev pub invariant-check_list-loop-e : goal.invariant-check_list-loop-e
invariant-check_list-loop-e l =
    (seen l.text (scope_of l.scope) (exs_of l.es) ≡ seens l.items.items ++ seen l.text (scope_of l.scope) (exs_of (drop l.e-index l.es)))
    × Kept (FailsInEach l.text (scope_of l.scope) (exs_of l.es)) (FailsInEach l.text (scope_of l.scope) (exs_of (drop l.e-index l.es))) l.fault

abbrev pub invariant-check_placed-loop-element : goal.invariant-check_placed-loop-element
invariant-check_placed-loop-element l =
    (placed l.text (scope_of l.scope) l.whole 0 (elements_of l.list) ≡ placeds l.placed.items ++ placed l.text (scope_of l.scope) l.whole l.number (elements_of (drop l.element-index l.list)))
    × Kept (FailsInElements l.text (scope_of l.scope) l.whole (elements_of l.list)) (FailsInElements l.text (scope_of l.scope) l.whole (elements_of (drop l.element-index l.list))) l.fault
