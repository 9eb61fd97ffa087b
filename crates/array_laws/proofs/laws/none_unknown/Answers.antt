use Rattle.array_laws.proofs.Standing.{none_unknown}
use Rattle.array_laws.proofs.laws.none_unknown.Goals as goal

pub returns : goal.returns
returns c = none_unknown
