use Rattle.meaning_laws.proofs.Preserving.{accesses_are_there}
use Rattle.meaning_laws.proofs.laws.accesses_are_there.Goals as goal

pub returns : goal.returns
returns c = accesses_are_there
