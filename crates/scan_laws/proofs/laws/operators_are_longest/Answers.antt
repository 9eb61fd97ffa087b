use Rattle.scan_laws.proofs.Standing.{operators}
use Rattle.scan_laws.proofs.laws.operators_are_longest.Goals as goal

pub returns : goal.returns
returns c = operators
