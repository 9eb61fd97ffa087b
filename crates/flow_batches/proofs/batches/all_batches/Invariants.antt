use Rattle.std.proofs.Common.{◌≡◌, map, take}
use Rattle.components.specs.Components.{component_lists}
use Rattle.flow_batches.specs.Batches.{number_lists}
use Rattle.flow_batches.proofs.batches.all_batches.Given as goal

abbrev pub invariant-loop-component : goal.invariant-loop-component
invariant-loop-component l = number_lists (map (λ b. b.items) l.batches.items) ≡ component_lists (take l.component-index l.components)
