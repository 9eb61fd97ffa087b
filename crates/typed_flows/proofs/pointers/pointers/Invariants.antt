use Rattle.std.proofs.Common.{◌≡◌, length}
use Rattle.typed_flows.specs.Known.{AreKnown}
use Rattle.typed_flows.proofs.pointers.pointers.Given as goal

abbrev pub invariant-loop-component : goal.invariant-loop-component
invariant-loop-component l = record { known : AreKnown l.table l.known.items; long : length l.known.items ≡ l.count }
