use Rattle.std.proofs.Common.{◌≡◌, ◌++◌, drop, map}
use Rattle.typed.specs.View.{elements_of, exs_of, program_of, steps_of}
use Rattle.value_flows.specs.View.{val_of}
use Rattle.value_flows.specs.Syntax.{sent}
use Rattle.typed_flows.specs.Values.{values, element_values, index_values}
use Rattle.typed_flows.proofs.values.+values.Given as goal

abbrev pub invariant-index_values-loop-step : goal.invariant-index_values-loop-step
invariant-index_values-loop-step l =
    map val_of l.all.items ++ index_values (program_of l.context.program.now) (steps_of (drop l.step-index l.steps))
    ≡ index_values (program_of l.context.program.now) (steps_of l.steps)

abbrev pub invariant-element_values-loop-element : goal.invariant-element_values-loop-element
invariant-element_values-loop-element l =
    map val_of l.all.items ++ element_values (program_of l.context.program.now) (elements_of (drop l.element-index l.elements))
    ≡ element_values (program_of l.context.program.now) (elements_of l.elements)

abbrev pub invariant-sent_values-loop-e : goal.invariant-sent_values-loop-e
invariant-sent_values-loop-e l =
    map val_of l.all.items ++ map (sent l.target) (values (program_of l.context.program.now) (exs_of (drop l.e-index l.es)))
    ≡ map (sent l.target) (values (program_of l.context.program.now) (exs_of l.es))

abbrev pub invariant-each_value-loop-e : goal.invariant-each_value-loop-e
invariant-each_value-loop-e l =
    map val_of l.all.items ++ values (program_of l.context.program.now) (exs_of (drop l.e-index l.es))
    ≡ values (program_of l.context.program.now) (exs_of l.es)
