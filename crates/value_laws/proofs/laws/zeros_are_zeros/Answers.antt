use Rattle.value_laws.proofs.Zeros.{zero_value}
use Rattle.value_laws.proofs.laws.zeros_are_zeros.Goals as goal

pub returns : goal.returns
returns c = zero_value
