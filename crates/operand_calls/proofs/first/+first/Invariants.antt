use Rattle.std.proofs.Common.{◌≡◌, drop}
use Rattle.syntax.specs.Expressions.{exs_of, elements_of}
use Rattle.names.specs.Scope.{scope_of}
use Rattle.operand_calls.specs.Calls.{first_of, first_call_in, first_call_among}
use Rattle.operand_calls.proofs.first.+first.Given as goal

abbrev pub invariant-first_call_among-loop-element : goal.invariant-first_call_among-loop-element
invariant-first_call_among-loop-element l = first_of l.found (first_call_among l.text (scope_of l.scope) (elements_of (drop l.element-index l.elements))) ≡ first_call_among l.text (scope_of l.scope) (elements_of l.elements)

abbrev pub invariant-first_call_in-loop-e : goal.invariant-first_call_in-loop-e
invariant-first_call_in-loop-e l = first_of l.found (first_call_in l.text (scope_of l.scope) (exs_of (drop l.e-index l.es))) ≡ first_call_in l.text (scope_of l.scope) (exs_of l.es)
