use Rattle.typed_flows.specs.Known.{AreKnown}
use Rattle.typed_flows.proofs.pointers.note_all.Given as goal

abbrev pub invariant-loop-id : goal.invariant-loop-id
invariant-loop-id l = AreKnown l.table l.known
