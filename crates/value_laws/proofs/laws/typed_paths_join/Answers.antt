use Rattle.value_laws.proofs.Parts.{joined_types}
use Rattle.value_laws.proofs.laws.typed_paths_join.Goals as goal

pub returns : goal.returns
returns c = joined_types
