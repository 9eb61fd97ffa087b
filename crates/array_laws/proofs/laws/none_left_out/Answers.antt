use Rattle.array_laws.proofs.Standing.{none_left_out}
use Rattle.array_laws.proofs.laws.none_left_out.Goals as goal

pub returns : goal.returns
returns c = none_left_out
