use Rattle.array_laws.proofs.Standing.{lengths_stay}
use Rattle.array_laws.proofs.laws.lengths_stay.Goals as goal

pub returns : goal.returns
returns c = lengths_stay
