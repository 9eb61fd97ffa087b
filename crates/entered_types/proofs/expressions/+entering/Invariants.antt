use Rattle.std.proofs.Common.{◌≡◌, drop}
use Rattle.syntax.specs.Expressions.{exs_of, elements_of}
use Rattle.names.specs.Scope.{scope_of}
use Rattle.entered_types.specs.Entered.{entered_each, entered_elements}
use Rattle.entered_types.proofs.expressions.+entering.Given as goal

abbrev pub invariant-enter_each-loop-e : goal.invariant-enter_each-loop-e
invariant-enter_each-loop-e l = entered_each l.text (scope_of l.fn.scope) (exs_of l.es) ≡ entered_each l.text (scope_of l.scope) (exs_of (drop l.e-index l.es))

abbrev pub invariant-enter_elements-loop-element : goal.invariant-enter_elements-loop-element
invariant-enter_elements-loop-element l =
    entered_elements l.text (scope_of l.fn.scope) (elements_of l.list) ≡ entered_elements l.text (scope_of l.scope) (elements_of (drop l.element-index l.list))
