use Rattle.std.specs.Prelude.{◌≡◌, length, ◌≤◌, None}
use Rattle.outside.specs.Pending.{to_come}
use Rattle.machine.specs.Inside.{Inside}
use Rattle.machine.specs.Answers.{WithAnswers}
use Rattle.machine.proofs.Going.{SoFar}
use Rattle.machine.proofs.running.run.Given as goal

abbrev pub invariant-steps : goal.invariant-steps
invariant-steps g l = record {
  reading : WithAnswers None (to_come l.fn.reader (g.I.Source.left l.fn.input)) (to_come l.reader (g.I.Source.left l.input)) ((l.reader ≡ l.fn.reader) × (l.input ≡ l.fn.input))
      (SoFar l.code l.fn.stack_max l.fn.steps l.fn.words.items l.fn.heap l.fn.at l.left l.words.items l.heap l.at (g.O.Sink.taken l.fn.out) (g.O.Sink.taken l.out));
  stands : Inside l.code (length l.words.items) l.at.pc l.at.base;
  later : g.O.Sink.faults l.fn.out ≤ g.O.Sink.faults l.out;
  source_later : g.I.Source.faults l.fn.input ≤ g.I.Source.faults l.input;
  length : length l.words.items ≤ l.fn.stack_max;
}

abbrev pub decreases-steps : goal.decreases-steps
decreases-steps g l = l.left
