use Rattle.std.proofs.Common.{rules, codes}
use Rattle.std.proofs.lemmas.Int.{to_z-of_z}
use mir.Syntax.{w64}
use Rattle.gostk.proofs.Lines.{number_passed, part_of_panic}
use Rattle.gostk.proofs.reporting.put_panic.Goals as goal

pub returns-in-DivideByZero-clause-whole : goal.returns-in-DivideByZero-clause-whole
returns-in-DivideByZero-clause-whole g c = rw c.in-DivideByZero.is c.put_text.ensures.whole

pub returns-in-NilPointer-clause-whole : goal.returns-in-NilPointer-clause-whole
returns-in-NilPointer-clause-whole g c = rw c.in-NilPointer.is c.put_text-in-NilPointer.ensures.whole

pub returns-in-Text-clause-part : goal.returns-in-Text-clause-part
returns-in-Text-clause-part g c =
    part_of_panic c.put_pieces.result (g.E.Sink.taken c.args.err.now) (g.E.Sink.taken c.put_pieces.new.err) c.as_slice.result.now c.in-Text.bytes
    c.args.reason.now c.as_slice.ensures.value c.in-Text.is c.put_pieces.ensures.part

pub returns-in-SliceHigh-clause-whole : goal.returns-in-SliceHigh-clause-whole
returns-in-SliceHigh-clause-whole g c = rw c.in-SliceHigh.is (search rules)

pub returns-in-MakeLength-clause-whole : goal.returns-in-MakeLength-clause-whole
returns-in-MakeLength-clause-whole g c = rw c.in-MakeLength.is (number_passed c.put_panic_number-in-MakeLength.result (g.E.Sink.taken c.args.err.now) (g.E.Sink.taken c.put_panic_number-in-MakeLength.new.err) (codes "make length ") _ c.in-MakeLength.n (to_z-of_z w64 c.in-MakeLength.n (search rules)) c.put_panic_number-in-MakeLength.ensures.whole)
