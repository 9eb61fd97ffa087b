use Rattle.std.proofs.Common.{◌≡◌, Some, map}
use Rattle.std.proofs.lemmas.Result.{IfOk-weaker}
use Rattle.typed_flows.specs.Known.{AreAll}
use Rattle.typed_flows.proofs.Tables.{all_numbered}
use Rattle.typed_flows.proofs.pointers.pointers.Goals as goal

pub returns : goal.returns
returns c =
    let T = c.args.table.now in
    let known = c.loop-component.known.items in
    IfOk-weaker c.all_of.result (λ v. map (λ b. Some b) v.items ≡ known) (λ v. AreAll T v.items) (λ v h. all_numbered T known v.items c.in_ok-count.count c.loop-component.invariant.known h c.loop-component.invariant.long c.in_ok-count.ensures) (rw c.deref-2.ensures.value at c.all_of.ensures)
