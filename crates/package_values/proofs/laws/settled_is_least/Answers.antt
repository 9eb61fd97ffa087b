use Rattle.package_values.proofs.Least.{settled_is_least}
use Rattle.package_values.proofs.laws.settled_is_least.Goals as goal

pub returns : goal.returns
returns c = settled_is_least
