use Rattle.std.proofs.Common.{rules, arith}
use Rattle.outside.specs.Line.{text_of, StoppedIn}
use Rattle.outside.specs.Took.{TookPrefix}
use Rattle.outside.proofs.Parts.{line_more, line_stopped, line_prefix}
use Rattle.outside.proofs.line.put_line.Goals as goal

pub returns-in_err-put_part-clause-stopped : goal.returns-in_err-put_part-clause-stopped
returns-in_err-put_part-clause-stopped g c =
    let stopped : StoppedIn (g.S.Sink.taken c.args.out.now) (g.S.Sink.taken c.put_part.new.out) c.args.parts.now _ =
    line_stopped _ _ _ _ _ _ _ c.parts-test.true c.in_err-put_part.ensures.puts.within c.parts.invariant.took c.in_err-put_part.ensures.puts.part in
    search rules

pub returns-in_err-put_part-clause-part : goal.returns-in_err-put_part-clause-part
returns-in_err-put_part-clause-part g c =
    let part : TookPrefix (g.S.Sink.taken c.args.out.now) (g.S.Sink.taken c.put_part.new.out) (text_of c.args.parts.now) =
    line_prefix _ _ _ _
    (line_stopped _ _ _ _ _ _ _ c.parts-test.true c.in_err-put_part.ensures.puts.within c.parts.invariant.took c.in_err-put_part.ensures.puts.part) in
    search rules

pub parts-preserved : goal.parts-preserved
parts-preserved g c = record {
  took = line_more _ _ _ _ _ _ c.parts-test.true c.parts.invariant.took c.in_ok-put_part.ensures.puts.whole;
  later = let later = c.in_ok-put_part.ensures.cause.later in omega (arith, c.parts.invariant.later);
}
