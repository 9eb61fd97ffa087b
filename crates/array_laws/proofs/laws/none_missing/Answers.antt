use Rattle.array_laws.proofs.Standing.{none_missing}
use Rattle.array_laws.proofs.laws.none_missing.Goals as goal

pub returns : goal.returns
returns c = none_missing
