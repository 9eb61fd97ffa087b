use Rattle.std.proofs.Common.{◌≡◌, ◌-◌, refl, arith, ◌∙◌}
use Rattle.outside.specs.Pending.{to_come}
use Rattle.machine.proofs.Going.{at_start, on_by, ends_by, ran_out, below}
use Rattle.machine.proofs.running.run.Goals as goal

pub step-next-requires-clause-place : goal.step-next-requires-clause-place
step-next-requires-clause-place g c =
    let tables = c.of-tables.ensures in
    rw tables.value (below _ _ _ _ (rw tables.value at tables.is_code) c.steps.invariant.stands, c.requires.code)

pub steps-init : goal.steps-init
steps-init g c = record {
  reading = at_start c.args.code.now c.args.stack_max c.args.steps c.args.words.now.items c.args.heap.now c.args.at (g.O.Sink.taken c.args.out.now) _ _ (refl, refl);
  stands = c.requires.inside;
  later = omega arith;
  source_later = omega arith;
  length = c.requires.words.0;
}

pub step-after-requires-clause-place : goal.step-after-requires-clause-place
step-after-requires-clause-place g c =
    let tables = c.of-tables.ensures in
    rw tables.value (below _ _ _ _ (rw tables.value at tables.is_code) (rw tables.value at (c.step-next.ensures.stays c.in-None.is)), c.requires.code)

pub steps-preserved : goal.steps-preserved
steps-preserved g c =
    let same = c.of-tables.ensures.value in
    let mid = on_by c.args.code.now _ c.args.stack_max c.args.steps c.args.words.now.items c.args.heap.now c.args.at c.steps.left c.steps.words.items c.steps.heap c.steps.at c.step-next.new.words.items c.step-next.new.heap c.step-next.result.at
    (g.O.Sink.taken c.args.out.now) (g.O.Sink.taken c.steps.out) (g.O.Sink.taken c.step-next.new.out) (g.O.Sink.faults c.args.out.now) (g.O.Sink.faults c.steps.out) (g.O.Sink.faults c.step-next.new.out)
    (to_come c.args.reader.now (g.I.Source.left c.args.input.now)) (to_come c.steps.reader (g.I.Source.left c.steps.input)) (to_come c.step-next.new.reader (g.I.Source.left c.step-next.new.input))
    ((c.steps.reader ≡ c.args.reader.now) × (c.steps.input ≡ c.args.input.now)) ((c.step-next.new.reader ≡ c.steps.reader) × (c.step-next.new.input ≡ c.steps.input)) ((c.step-next.new.reader ≡ c.args.reader.now) × (c.step-next.new.input ≡ c.args.input.now)) c.step-next.result.ending c.steps.invariant.reading c.steps-test.true same (λ u v. (v.0 ∙ u.0, v.1 ∙ u.1)) c.step-next.ensures.step c.in-None.is in
    record {
      reading = on_by c.args.code.now _ c.args.stack_max c.args.steps c.args.words.now.items c.args.heap.now c.args.at (c.steps.left - 1) c.step-next.new.words.items c.step-next.new.heap c.step-next.result.at c.step-after.new.words.items c.step-after.new.heap c.step-after.result.at
          (g.O.Sink.taken c.args.out.now) (g.O.Sink.taken c.step-next.new.out) (g.O.Sink.taken c.step-after.new.out) (g.O.Sink.faults c.args.out.now) (g.O.Sink.faults c.step-next.new.out) (g.O.Sink.faults c.step-after.new.out)
          (to_come c.args.reader.now (g.I.Source.left c.args.input.now)) (to_come c.step-next.new.reader (g.I.Source.left c.step-next.new.input)) (to_come c.step-after.new.reader (g.I.Source.left c.step-after.new.input))
          ((c.step-next.new.reader ≡ c.args.reader.now) × (c.step-next.new.input ≡ c.args.input.now)) ((c.step-after.new.reader ≡ c.step-next.new.reader) × (c.step-after.new.input ≡ c.step-next.new.input)) ((c.step-after.new.reader ≡ c.args.reader.now) × (c.step-after.new.input ≡ c.args.input.now)) c.step-after.result.ending mid (omega (arith, c.if-left-eq0.false)) same (λ u v. (v.0 ∙ u.0, v.1 ∙ u.1)) c.step-after.ensures.step c.in-None-ending.is;
      stands = rw same at (c.step-after.ensures.stays c.in-None-ending.is);
      later = omega (arith, c.steps.invariant.later, c.step-next.ensures.later, c.step-after.ensures.later);
      source_later = omega (arith, c.steps.invariant.source_later, c.step-next.ensures.source_later, c.step-after.ensures.source_later);
      length = c.step-after.ensures.length;
    }

pub returns-in-Some-clause-runs : goal.returns-in-Some-clause-runs
returns-in-Some-clause-runs g c =
    let same = c.of-tables.ensures.value in
    ends_by c.args.code.now _ c.args.stack_max c.args.steps c.args.words.now.items c.args.heap.now c.args.at c.steps.left c.steps.words.items c.steps.heap c.steps.at c.step-next.new.words.items c.step-next.new.heap c.step-next.result.at
    (g.O.Sink.taken c.args.out.now) (g.O.Sink.taken c.steps.out) (g.O.Sink.taken c.step-next.new.out) (g.O.Sink.faults c.args.out.now) (g.O.Sink.faults c.steps.out) (g.O.Sink.faults c.step-next.new.out)
    (to_come c.args.reader.now (g.I.Source.left c.args.input.now)) (to_come c.steps.reader (g.I.Source.left c.steps.input)) (to_come c.step-next.new.reader (g.I.Source.left c.step-next.new.input))
    ((c.steps.reader ≡ c.args.reader.now) × (c.steps.input ≡ c.args.input.now)) ((c.step-next.new.reader ≡ c.steps.reader) × (c.step-next.new.input ≡ c.steps.input)) ((c.step-next.new.reader ≡ c.args.reader.now) × (c.step-next.new.input ≡ c.args.input.now)) c.step-next.result.ending c.steps.invariant.reading c.steps-test.true same (λ u v. (v.0 ∙ u.0, v.1 ∙ u.1)) c.step-next.ensures.step _ c.in-Some.is c.steps.invariant.later
    (λ refusal. let m = c.step-next.ensures.memory refusal in (m.0, m.1))

pub returns-then-left-eq0-clause-runs : goal.returns-then-left-eq0-clause-runs
returns-then-left-eq0-clause-runs g c =
    let same = c.of-tables.ensures.value in
    let mid = on_by c.args.code.now _ c.args.stack_max c.args.steps c.args.words.now.items c.args.heap.now c.args.at c.steps.left c.steps.words.items c.steps.heap c.steps.at c.step-next.new.words.items c.step-next.new.heap c.step-next.result.at
    (g.O.Sink.taken c.args.out.now) (g.O.Sink.taken c.steps.out) (g.O.Sink.taken c.step-next.new.out) (g.O.Sink.faults c.args.out.now) (g.O.Sink.faults c.steps.out) (g.O.Sink.faults c.step-next.new.out)
    (to_come c.args.reader.now (g.I.Source.left c.args.input.now)) (to_come c.steps.reader (g.I.Source.left c.steps.input)) (to_come c.step-next.new.reader (g.I.Source.left c.step-next.new.input))
    ((c.steps.reader ≡ c.args.reader.now) × (c.steps.input ≡ c.args.input.now)) ((c.step-next.new.reader ≡ c.steps.reader) × (c.step-next.new.input ≡ c.steps.input)) ((c.step-next.new.reader ≡ c.args.reader.now) × (c.step-next.new.input ≡ c.args.input.now)) c.step-next.result.ending c.steps.invariant.reading c.steps-test.true same (λ u v. (v.0 ∙ u.0, v.1 ∙ u.1)) c.step-next.ensures.step c.in-None.is in
    ran_out c.args.code.now c.args.stack_max c.args.steps c.args.words.now.items c.args.heap.now c.args.at (c.steps.left - 1) c.step-next.new.words.items c.step-next.new.heap c.step-next.result.at (g.O.Sink.taken c.args.out.now) (g.O.Sink.taken c.step-next.new.out) (g.O.Sink.faults c.args.out.now) (g.O.Sink.faults c.step-next.new.out) _ _ _ mid (omega (arith, c.if-left-eq0.true))

pub returns-in-Some-ending-clause-runs : goal.returns-in-Some-ending-clause-runs
returns-in-Some-ending-clause-runs g c =
    let same = c.of-tables.ensures.value in
    let mid = on_by c.args.code.now _ c.args.stack_max c.args.steps c.args.words.now.items c.args.heap.now c.args.at c.steps.left c.steps.words.items c.steps.heap c.steps.at c.step-next.new.words.items c.step-next.new.heap c.step-next.result.at
    (g.O.Sink.taken c.args.out.now) (g.O.Sink.taken c.steps.out) (g.O.Sink.taken c.step-next.new.out) (g.O.Sink.faults c.args.out.now) (g.O.Sink.faults c.steps.out) (g.O.Sink.faults c.step-next.new.out)
    (to_come c.args.reader.now (g.I.Source.left c.args.input.now)) (to_come c.steps.reader (g.I.Source.left c.steps.input)) (to_come c.step-next.new.reader (g.I.Source.left c.step-next.new.input))
    ((c.steps.reader ≡ c.args.reader.now) × (c.steps.input ≡ c.args.input.now)) ((c.step-next.new.reader ≡ c.steps.reader) × (c.step-next.new.input ≡ c.steps.input)) ((c.step-next.new.reader ≡ c.args.reader.now) × (c.step-next.new.input ≡ c.args.input.now)) c.step-next.result.ending c.steps.invariant.reading c.steps-test.true same (λ u v. (v.0 ∙ u.0, v.1 ∙ u.1)) c.step-next.ensures.step c.in-None.is in
    ends_by c.args.code.now _ c.args.stack_max c.args.steps c.args.words.now.items c.args.heap.now c.args.at (c.steps.left - 1) c.step-next.new.words.items c.step-next.new.heap c.step-next.result.at c.step-after.new.words.items c.step-after.new.heap c.step-after.result.at
    (g.O.Sink.taken c.args.out.now) (g.O.Sink.taken c.step-next.new.out) (g.O.Sink.taken c.step-after.new.out) (g.O.Sink.faults c.args.out.now) (g.O.Sink.faults c.step-next.new.out) (g.O.Sink.faults c.step-after.new.out)
    (to_come c.args.reader.now (g.I.Source.left c.args.input.now)) (to_come c.step-next.new.reader (g.I.Source.left c.step-next.new.input)) (to_come c.step-after.new.reader (g.I.Source.left c.step-after.new.input))
    ((c.step-next.new.reader ≡ c.args.reader.now) × (c.step-next.new.input ≡ c.args.input.now)) ((c.step-after.new.reader ≡ c.step-next.new.reader) × (c.step-after.new.input ≡ c.step-next.new.input)) ((c.step-after.new.reader ≡ c.args.reader.now) × (c.step-after.new.input ≡ c.args.input.now)) c.step-after.result.ending mid (omega (arith, c.if-left-eq0.false)) same (λ u v. (v.0 ∙ u.0, v.1 ∙ u.1)) c.step-after.ensures.step _ c.in-Some-ending.is (omega (arith, c.steps.invariant.later, c.step-next.ensures.later))
    (λ refusal. let m = c.step-after.ensures.memory refusal in (m.0, m.1))

pub returns-clause-runs : goal.returns-clause-runs
returns-clause-runs g c = ran_out c.args.code.now c.args.stack_max c.args.steps c.args.words.now.items c.args.heap.now c.args.at c.steps.left c.steps.words.items c.steps.heap c.steps.at (g.O.Sink.taken c.args.out.now) (g.O.Sink.taken c.steps.out) (g.O.Sink.faults c.args.out.now) (g.O.Sink.faults c.steps.out) _ _ _ c.steps.invariant.reading c.steps-test.false
