use Rattle.struct_sizes.proofs.Settled.{sized_is_type}
use Rattle.struct_sizes.proofs.laws.sized_is_type.Goals as goal

pub returns : goal.returns
returns c = sized_is_type
