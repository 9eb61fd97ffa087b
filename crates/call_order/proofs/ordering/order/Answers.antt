use Rattle.std.proofs.Common.{◌≡◌, ℕ, List, ap, ◌∙◌, subst}
use Rattle.components.specs.Graph.{rows}
use Rattle.components.specs.Components.{AreComponents, component_lists}
use Rattle.typed.specs.View.{program_of}
use Rattle.call_order.specs.Lists.{call_lists}
use Rattle.call_order.specs.Batches.{AreBatchesOf}
use Rattle.call_order.specs.Order.{batch_lists}
use Rattle.call_order.proofs.Ordered.{in_order}
use Rattle.call_order.proofs.ordering.order.Goals as goal

pub returns : goal.returns
returns c =
    let p = program_of c.args.program.now in
    let found = component_lists c.in_ok-found.found.components.items in
    let batches = batch_lists c.in_ok-batches.batches.items in
    let calls_are : rows c.deref.result.now ≡ call_lists p.funcs = ap rows c.deref.ensures.value ∙ c.in_ok-calls.ensures in
    let are : AreComponents (call_lists p.funcs) found = subst (λ (t : List (List ℕ)). AreComponents t found) calls_are c.in_ok-found.ensures in
    let listed : component_lists c.deref-2.result.now ≡ found = ap component_lists c.deref-2.ensures.value in
    in_order p found batches are (subst (λ (ns : List (List ℕ)). AreBatchesOf ns batches) listed c.in_ok-batches.ensures)
