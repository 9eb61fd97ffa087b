use Rattle.std.proofs.Common.{take, ◌≤◌}
use Rattle.outside.specs.Line.{text_of}
use Rattle.outside.specs.Took.{Took}
use Rattle.outside.proofs.line.put_line.Given as goal

abbrev pub invariant-parts : goal.invariant-parts
invariant-parts g l = record {
  took : Took (g.S.Sink.taken l.fn.out) (g.S.Sink.taken l.out) (text_of (take l.part-index l.parts));
  later : g.S.Sink.faults l.fn.out ≤ g.S.Sink.faults l.out;
}
