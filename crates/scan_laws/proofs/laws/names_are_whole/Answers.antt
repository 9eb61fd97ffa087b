use Rattle.scan_laws.proofs.Standing.{names}
use Rattle.scan_laws.proofs.laws.names_are_whole.Goals as goal

pub returns : goal.returns
returns c = names
