use Rattle.std.specs.Prelude.{IsTrue}
use Rattle.value_laws.proofs.Zeros.{zero_held}
use Rattle.value_laws.proofs.laws.zeros_are_held.Goals as goal

pub returns : goal.returns
returns c = λ holds t base. zero_held (λ c w. IsTrue (holds c w)) base t
