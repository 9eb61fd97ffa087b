use Rattle.std.proofs.Common.{ℕ, ◌++◌, Option, codes, decimal, ap, sym}
use Rattle.gostk.specs.Refusal.{words_text}
use Rattle.gostk.proofs.Lines.{part_of_line}
use Rattle.gostk.proofs.reporting.put_refusal.Goals as goal

pub returns-in-None-clause-part : goal.returns-in-None-clause-part
returns-in-None-clause-part g c =
    part_of_line c.put_pieces.result (g.E.Sink.taken c.args.err.now) (g.E.Sink.taken c.put_pieces.new.err) c.as_bytes.result.now c.args.file.now
    c.from.result c.from-2.result c.from-3.result c.text.result.now (codes "\n") c.args.refusal.now
    c.as_bytes.ensures.value c.from.ensures c.from-2.ensures c.text.ensures c.from-3.ensures
    (sym (ap (λ (o : Option ℕ). words_text o ++ codes "\n") c.in-None.is)) c.put_pieces.ensures.part

pub returns-in-Some-clause-part : goal.returns-in-Some-clause-part
returns-in-Some-clause-part g c =
    part_of_line c.put_pieces-in-Some.result (g.E.Sink.taken c.args.err.now) (g.E.Sink.taken c.put_pieces-in-Some.new.err) c.as_bytes.result.now c.args.file.now
    c.from.result c.from-2.result c.from-3.result c.text.result.now (codes " words " ++ (decimal c.in-Some.words ++ codes "\n")) c.args.refusal.now
    c.as_bytes.ensures.value c.from.ensures c.from-2.ensures c.text.ensures c.from-3.ensures
    (sym (ap (λ (o : Option ℕ). words_text o ++ codes "\n") c.in-Some.is)) c.put_pieces-in-Some.ensures.part
