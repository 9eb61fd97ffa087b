use Rattle.std.proofs.Common.{◌≡◌, ℕ, ◌+◌, List, [], ◌∷◌, get_or, drop, Option, Some, None, sym, ap, ◌∙◌}
use Rattle.std.proofs.lemmas.List.{at_drop_more, drop_all}
use Rattle.report_checks.specs.Reading.{with_digit, with_digits, ◌>>=◌}
use Rattle.report_checks.proofs.numbers.value_of.Goals as goal

more : (n c m : ℕ) (cs : List ℕ) → Some m ≡ with_digit n c → with_digits n (c ∷ cs) ≡ with_digits m cs
unfolding with_digits
more n c m cs h = ap (λ (o : Option ℕ). o >>= (λ k. with_digits k cs)) (sym h)

stops : (n c : ℕ) (cs : List ℕ) → None ≡ with_digit n c → with_digits n (c ∷ cs) ≡ None
unfolding with_digits
stops n c cs h = ap (λ (o : Option ℕ). o >>= (λ k. with_digits k cs)) (sym h)

ends : (n : ℕ) (xs : List ℕ) → xs ≡ [] → with_digits n xs ≡ Some n
unfolding with_digits
ends n xs e = ap (with_digits n) e

pub returns-in_default : goal.returns-in_default
returns-in_default c =
    let t = c.args.text.now in
    let i = c.loop-byte.byte-index in
    sym (c.loop-byte.invariant ∙ at_drop_more (with_digits c.loop-byte.value) t i 0 c.loop-byte-test.true ∙ stops c.loop-byte.value (get_or t i 0) (drop (i + 1) t) (sym c.in_default.is ∙ c.with_digit.ensures))

pub loop-byte-preserved : goal.loop-byte-preserved
loop-byte-preserved c =
    let t = c.args.text.now in
    let i = c.loop-byte.byte-index in
    c.loop-byte.invariant ∙ at_drop_more (with_digits c.loop-byte.value) t i 0 c.loop-byte-test.true ∙ more c.loop-byte.value (get_or t i 0) c.in-Some.next (drop (i + 1) t) (sym c.in-Some.is ∙ c.with_digit.ensures)

pub returns : goal.returns
returns c = sym (c.loop-byte.invariant ∙ ends c.loop-byte.value _ (drop_all c.loop-byte.byte-index c.args.text.now c.loop-byte-test.false))
