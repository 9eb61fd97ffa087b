use Rattle.value_laws.proofs.Equal.{same_decides}
use Rattle.value_laws.proofs.laws.same_is_equal.Goals as goal

pub returns : goal.returns
returns c = same_decides
