use Rattle.std.proofs.Common.{◌≡◌, ◌||◌, drop}
use Rattle.typed.specs.View.{exs_of, steps_of, elements_of}
use Rattle.operand_calls.specs.Calls.{has_call_in_each, has_call_in_steps, has_call_in_elements}
use Rattle.operand_calls.proofs.inside.+inside.Given as goal

abbrev pub invariant-has_call_in_elements-loop-element : goal.invariant-has_call_in_elements-loop-element
invariant-has_call_in_elements-loop-element l = (l.found || has_call_in_elements (elements_of (drop l.element-index l.elements))) ≡ has_call_in_elements (elements_of l.elements)

abbrev pub invariant-has_call_in_each-loop-e : goal.invariant-has_call_in_each-loop-e
invariant-has_call_in_each-loop-e l = (l.found || has_call_in_each (exs_of (drop l.e-index l.es))) ≡ has_call_in_each (exs_of l.es)

abbrev pub invariant-has_call_in_steps-loop-step : goal.invariant-has_call_in_steps-loop-step
invariant-has_call_in_steps-loop-step l = (l.found || has_call_in_steps (steps_of (drop l.step-index l.steps))) ≡ has_call_in_steps (steps_of l.steps)
