use Rattle.std.proofs.Common.{◌≡◌, length}
use Rattle.syntax.specs.Expressions.{ex_of}
use Rattle.parse_expressions.specs.Machine.{reduce_type}
use Rattle.parse_expressions.specs.States.{frames_in}
use Rattle.parse_expressions.proofs.closing_type.reduce_type.Given as goal

abbrev pub invariant-stars : goal.invariant-stars
invariant-stars l = record {
  reduced : reduce_type (frames_in l.reading) (ex_of l.part.expr) ≡ reduce_type (frames_in l.fn.reading) (ex_of l.fn.part.expr);
  context : l.reading.context ≡ l.fn.reading.context;
}

abbrev pub decreases-stars : goal.decreases-stars
decreases-stars l = length (frames_in l.reading)
