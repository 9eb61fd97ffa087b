use Rattle.std.proofs.Common.{arith, ◌∙◌, sym, refl}
use Rattle.outside.proofs.Turns.{at_first, item_more, skip_more, by_separator, by_end, by_bound, end_is_met, separator_not_met, bound_not_met, gives_byte, gives_end}
use Rattle.outside.proofs.reader.IntReader.next.Goals as goal
use Rattle.outside.proofs.reader.IntReader.next.Goals.{then-not-is_separator, else-not-is_separator+else-item}

pub bytes-init : goal.bytes-init
bytes-init g c = record {
  turns = at_first _ _ c.new-item.ensures;
  knows = λ known. known;
  remembers = λ ended. (ended, refl);
  later = omega arith;
}

pub returns-in_default-clause-reads : goal.returns-in_default-clause-reads
returns-in_default-clause-reads g c =
    let gave = gives_end _ _ _ c.in_default.is c.in_ok-b.ensures.gives in
    by_end _ _ _ _ _ _ c.bytes.invariant.turns gave.0 gave.1 c.number.ensures c.bytes-test.true

pub returns-then-item-clause-reads : goal.returns-then-item-clause-reads
returns-then-item-clause-reads g c =
    by_separator _ _ _ _ _ _ _ c.bytes.invariant.turns (gives_byte _ _ _ _ c.in-Some.is c.in_ok-b.ensures.gives)
    (sym c.is_separator.ensures ∙ c.if-not-is_separator.false) c.if-item.true c.number-then-item.ensures c.bytes-test.true

pub bytes-preserved : goal.bytes-preserved
bytes-preserved g c =
    let gave = gives_byte _ _ _ _ c.in-Some.is c.in_ok-b.ensures.gives in
    record {
      turns = elim c.if-not-is_separator.branch [
        | then-not-is_separator w ↦
            rw w.item-is (item_more _ _ _ _ _ _ _ c.bytes.invariant.turns gave (sym c.is_separator.ensures ∙ w.if-not-is_separator.true)
            w.pushed-item.ensures.push w.pushed-item.ensures.small)
        | else-not-is_separator+else-item w ↦
            rw w.item-is (skip_more _ _ _ _ _ _ c.bytes.invariant.turns gave (sym c.is_separator.ensures ∙ w.if-not-is_separator.false) w.if-item.false)
      ];
      knows = λ known. c.byte.ensures.knows (c.bytes.invariant.knows known);
      remembers = λ ended.
          let before = c.bytes.invariant.remembers ended in
          let now = c.byte.ensures.remembers before.0 in
          (now.0, now.1 ∙ before.1);
      later = let later = c.byte.ensures.cause.later in omega (arith, c.bytes.invariant.later);
    }

pub returns-clause-reads : goal.returns-clause-reads
returns-clause-reads g c = by_bound _ _ _ _ _ c.bytes.invariant.turns (omega (arith, c.bytes-test.false, c.bytes.auto._turn-end)) refl

pub returns-in_default-clause-ended : goal.returns-in_default-clause-ended
returns-in_default-clause-ended g c = end_is_met _ _ (c.in_ok-b.ensures.ended c.in_default.is)

pub returns-then-item-clause-ended : goal.returns-then-item-clause-ended
returns-then-item-clause-ended g c =
    separator_not_met _ _ _ _ _ _ _ c.bytes.invariant.turns (gives_byte _ _ _ _ c.in-Some.is c.in_ok-b.ensures.gives)
    (sym c.is_separator.ensures ∙ c.if-not-is_separator.false) c.if-item.true

pub returns-clause-ended : goal.returns-clause-ended
returns-clause-ended g c = bound_not_met _ _ _ _ _ c.bytes.invariant.turns (omega (arith, c.bytes-test.false, c.bytes.auto._turn-end))
