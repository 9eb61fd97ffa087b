use Rattle.std.proofs.Common.{◌≡◌, drop}
use Rattle.std.specs.Prelude.{◌&&◌}
use Rattle.given_values.specs.Given.{types_agree}
use Rattle.given_values.proofs.values.types_agree.Given as goal

abbrev pub invariant-loop-index : goal.invariant-loop-index
invariant-loop-index l = types_agree l.places l.types ≡ (l.agree && types_agree (drop l.index l.places) (drop l.index l.types))
