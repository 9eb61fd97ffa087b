use Rattle.array_laws.proofs.Standing.{trees_stay}
use Rattle.array_laws.proofs.laws.trees_stay.Goals as goal

pub returns : goal.returns
returns c = trees_stay
