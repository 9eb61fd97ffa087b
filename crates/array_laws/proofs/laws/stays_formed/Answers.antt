use Rattle.array_laws.proofs.Standing.{stays_formed}
use Rattle.array_laws.proofs.laws.stays_formed.Goals as goal

pub returns : goal.returns
returns c = stays_formed
