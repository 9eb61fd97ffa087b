use Rattle.scan_laws.proofs.Standing.{numbers}
use Rattle.scan_laws.proofs.laws.numbers_are_literals.Goals as goal

pub returns : goal.returns
returns c = numbers
