use Rattle.std.proofs.Common.{◌≡◌, ◌+◌, drop}
use Rattle.scan_go.specs.Lines.{pos_after, PosFits}
use Rattle.scan_go.proofs.lines.pos_after.Given as goal

abbrev pub invariant-loop-b : goal.invariant-loop-b
invariant-loop-b l = record {
  so_far : pos_after l.pos (drop l.b-index l.bytes) ≡ pos_after l.fn.start l.bytes;
  offset : l.pos.offset ≡ l.fn.start.offset + l.b-index;
  fits : PosFits l.pos;
}
