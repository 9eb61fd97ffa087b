use Rattle.std.proofs.Common.{◌≡◌, ◌++◌, drop}
use Rattle.typed.specs.View.{elements_of, exs_of, steps_of}
use Rattle.taken_addresses.specs.Takes.{taken_all, taken_in_elements, taken_in_steps}
use Rattle.taken_addresses.proofs.addresses.+values.Given as goal

abbrev pub invariant-add_steps-loop-step : goal.invariant-add_steps-loop-step
invariant-add_steps-loop-step l = l.sites.items ++ taken_in_steps (steps_of (drop l.step-index l.steps)) ≡ l.fn.sites.items ++ taken_in_steps (steps_of l.steps)

abbrev pub invariant-add_elements-loop-element : goal.invariant-add_elements-loop-element
invariant-add_elements-loop-element l = l.sites.items ++ taken_in_elements (elements_of (drop l.element-index l.elements)) ≡ l.fn.sites.items ++ taken_in_elements (elements_of l.elements)

abbrev pub invariant-add_exprs-loop-e : goal.invariant-add_exprs-loop-e
invariant-add_exprs-loop-e l = l.sites.items ++ taken_all (exs_of (drop l.e-index l.es)) ≡ l.fn.sites.items ++ taken_all (exs_of l.es)
