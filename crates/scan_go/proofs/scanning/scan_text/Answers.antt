use Rattle.scan_go.proofs.Spans.{within}
use Rattle.std.proofs.Common.{arith}
use Rattle.scan_go.proofs.scanning.scan_text.Goals as goal

pub new-requires : goal.new-requires
new-requires c =
    let list = c.in_ok-list-in-Ok.ensures in
    let found = c.deref.ensures.value in
    rw (c.in_ok-from_slice-in-Ok.ensures.items, list, found) (within c.args.text.now c.in-Ok.found.items (omega arith) c.in-Ok.ensures.order)
