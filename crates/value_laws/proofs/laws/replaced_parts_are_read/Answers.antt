use Rattle.value_laws.proofs.Parts.{read_back}
use Rattle.value_laws.proofs.laws.replaced_parts_are_read.Goals as goal

pub returns : goal.returns
returns c = read_back
