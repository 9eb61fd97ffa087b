use Rattle.value_laws.proofs.Parts.{element}
use Rattle.value_laws.proofs.laws.elements_are_even.Goals as goal

pub returns : goal.returns
returns c = element
