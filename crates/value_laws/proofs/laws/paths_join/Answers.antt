use Rattle.value_laws.proofs.Parts.{joined}
use Rattle.value_laws.proofs.laws.paths_join.Goals as goal

pub returns : goal.returns
returns c = joined
