use Rattle.value_laws.proofs.Parts.{replaced}
use Rattle.value_laws.proofs.laws.replaced_parts_are_slices.Goals as goal

pub returns : goal.returns
returns c = replaced
