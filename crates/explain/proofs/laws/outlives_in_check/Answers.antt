use Rattle.explain.proofs.Outliving.{outlives_alike}
use Rattle.explain.proofs.laws.outlives_in_check.Goals as goal

pub returns : goal.returns
returns c = outlives_alike
