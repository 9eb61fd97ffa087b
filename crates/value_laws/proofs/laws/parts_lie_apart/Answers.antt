use Rattle.value_laws.proofs.Parts.{lie_apart}
use Rattle.value_laws.proofs.laws.parts_lie_apart.Goals as goal

pub returns : goal.returns
returns c = lie_apart
