use Rattle.std.proofs.Common.{◌≡◌, drop}
use Rattle.scan_go.specs.Numbers.{digits_fit}
use Rattle.scan_go.proofs.number.digits_fit.Given as goal

abbrev pub invariant-loop-i : goal.invariant-loop-i
invariant-loop-i l = digits_fit l.base (drop l.i l.run) ≡ digits_fit l.base l.run
