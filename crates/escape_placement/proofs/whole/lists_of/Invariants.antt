use Rattle.std.proofs.Common.{◌≡◌, ◌++◌, map, drop}
use Rattle.call_order.specs.Order.{batch_lists}
use Rattle.flow_batches.specs.Batches.{number_lists}
use Rattle.escape_placement.proofs.whole.lists_of.Given as goal

abbrev pub invariant-loop-batch : goal.invariant-loop-batch
invariant-loop-batch l = number_lists (map (λ b. b.items) l.lists.items) ++ batch_lists (drop l.batch-index l.batches.batches.items) ≡ batch_lists l.batches.batches.items
