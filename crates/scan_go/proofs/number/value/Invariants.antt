use Rattle.std.proofs.Common.{◌≡◌, ◌<◌, ◌^◌, drop}
use Rattle.std.specs.Prelude.{fold}
use Rattle.scan_go.specs.Numbers.{value, add_digit}
use Rattle.scan_go.proofs.number.value.Given as goal

abbrev pub invariant-loop-b : goal.invariant-loop-b
invariant-loop-b l = record { so_far : fold (add_digit l.base) l.value (drop l.b-index l.run) ≡ value l.base l.run; small : l.value < 2 ^ 127 }
