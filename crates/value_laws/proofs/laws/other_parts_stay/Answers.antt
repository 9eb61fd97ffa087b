use Rattle.value_laws.proofs.Parts.{others_stay}
use Rattle.value_laws.proofs.laws.other_parts_stay.Goals as goal

pub returns : goal.returns
returns c = others_stay
