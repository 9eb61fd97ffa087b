use Rattle.std.proofs.Common.{◌≡◌, length}
use Rattle.syntax.specs.Expressions.{ex_of}
use Rattle.parse_expressions.specs.Machine.{type_done}
use Rattle.parse_expressions.specs.States.{frames_in}
use Rattle.parse_expressions.proofs.types.type_done.Given as goal

abbrev pub invariant-prefixes : goal.invariant-prefixes
invariant-prefixes l = record {
  done : type_done (frames_in l.reading) (ex_of l.part.expr) ≡ type_done (frames_in l.fn.reading) (ex_of l.fn.part.expr);
  context : l.reading.context ≡ l.fn.reading.context;
}

abbrev pub decreases-prefixes : goal.decreases-prefixes
decreases-prefixes l = length (frames_in l.reading)
