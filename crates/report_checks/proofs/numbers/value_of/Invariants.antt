use Rattle.std.specs.Prelude.{◌≡◌, drop}
use Rattle.report_checks.specs.Reading.{with_digits}
use Rattle.report_checks.proofs.numbers.value_of.Given as goal

abbrev pub invariant-loop-byte : goal.invariant-loop-byte
invariant-loop-byte l = with_digits 0 l.text ≡ with_digits l.value (drop l.byte-index l.text)
