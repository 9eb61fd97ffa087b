use Rattle.std.proofs.Common.{◌≡◌, length}
use Rattle.syntax.specs.Expressions.{ex_of}
use Rattle.parse_expressions.specs.Machine.{reduce}
use Rattle.parse_expressions.specs.States.{frames_in}
use Rattle.parse_expressions.proofs.closing.reduce.Given as goal

abbrev pub invariant-tighter : goal.invariant-tighter
invariant-tighter l = record {
  reduced : reduce l.p (frames_in l.reading) (ex_of l.part.expr) ≡ reduce l.fn.p (frames_in l.fn.reading) (ex_of l.fn.part.expr);
  context : l.reading.context ≡ l.fn.reading.context;
}

abbrev pub decreases-tighter : goal.decreases-tighter
decreases-tighter l = length (frames_in l.reading)
