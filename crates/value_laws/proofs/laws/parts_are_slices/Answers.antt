use Rattle.value_laws.proofs.Parts.{sliced}
use Rattle.value_laws.proofs.laws.parts_are_slices.Goals as goal

pub returns : goal.returns
returns c = sliced
