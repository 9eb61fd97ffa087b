use Rattle.call_order.specs.Batches.{IsBatchOf}
use Rattle.call_order.specs.Order.{numbers}
use Rattle.call_order.proofs.Batched.{batches_more}
use Rattle.call_order.proofs.ordering.batches_of.Goals as goal

pub loop-component-preserved : goal.loop-component-preserved
loop-component-preserved c =
    let is : IsBatchOf c.component-item.result.nodes.items (numbers c.in_ok-batch.batch) = rw c.deref.ensures.value at c.in_ok-batch.ensures in
    batches_more c.args.components.now c.loop-component.component-index c.component-item.result c.loop-component.batches.items c.push.new.self.items c.in_ok-batch.batch c.loop-component-test.true c.component-item.is c.in_ok-push.ensures.items c.loop-component.invariant is
