use Rattle.std.proofs.Common.{take}
use Rattle.components.specs.Components.{component_lists}
use Rattle.call_order.specs.Batches.{AreBatchesOf}
use Rattle.call_order.specs.Order.{batch_lists}
use Rattle.call_order.proofs.ordering.batches_of.Given as goal

abbrev pub invariant-loop-component : goal.invariant-loop-component
invariant-loop-component l = AreBatchesOf (component_lists (take l.component-index l.components)) (batch_lists l.batches.items)
