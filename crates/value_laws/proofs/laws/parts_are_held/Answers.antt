use Rattle.std.specs.Prelude.{IsTrue}
use Rattle.value_laws.proofs.Parts.{held_parts}
use Rattle.value_laws.proofs.laws.parts_are_held.Goals as goal

pub returns : goal.returns
returns c = λ holds. held_parts (λ c w. IsTrue (holds c w))
