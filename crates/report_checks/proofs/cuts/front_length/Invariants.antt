use Rattle.std.specs.Prelude.{◌≡◌, ◌+◌, drop}
use Rattle.report_checks.specs.Cuts.{front_length}
use Rattle.report_checks.proofs.cuts.front_length.Given as goal

abbrev pub invariant-loop-byte : goal.invariant-loop-byte
invariant-loop-byte l = record {
  counted : l.length ≡ l.byte-index;
  left : front_length l.separator l.text ≡ l.length + front_length l.separator (drop l.byte-index l.text);
}
