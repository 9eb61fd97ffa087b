use Rattle.std.proofs.Common.{◌≡◌, ◌≤◌, true}
use Rattle.outside.specs.Pending.{to_come, KnowsEnd}
use Rattle.outside.proofs.Turns.{Turns}
use Rattle.outside.proofs.reader.IntReader.next.Given as goal

abbrev pub invariant-bytes : goal.invariant-bytes
invariant-bytes g l = record {
  turns : Turns (to_come l.fn.self (g.S.Source.left l.fn.src)) (to_come l.self (g.S.Source.left l.src)) l.item l._turn;
  knows : KnowsEnd l.fn.self (g.S.Source.left l.fn.src) → KnowsEnd l.self (g.S.Source.left l.src);
  remembers : l.fn.self.ended ≡ true → (l.self.ended ≡ true) × (l.src ≡ l.fn.src);
  later : g.S.Source.faults l.fn.src ≤ g.S.Source.faults l.src;
}
