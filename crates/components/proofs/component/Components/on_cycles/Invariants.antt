use Rattle.components.specs.Graph.{rows}
use Rattle.components.specs.Components.{component_lists}
use Rattle.components.specs.Cycles.{AreMarked}
use Rattle.components.proofs.component.Components.on_cycles.Given as goal

abbrev pub invariant-loop-component : goal.invariant-loop-component
invariant-loop-component l = AreMarked (rows l.edges) (component_lists l.self.components.items) l.component-index l.on_cycles.items
