use Rattle.scan_laws.proofs.Standing.{strings}
use Rattle.scan_laws.proofs.laws.strings_are_literals.Goals as goal

pub returns : goal.returns
returns c = strings
