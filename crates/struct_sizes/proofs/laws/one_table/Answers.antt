use Rattle.struct_sizes.proofs.Sums.{one_table}
use Rattle.struct_sizes.proofs.laws.one_table.Goals as goal

pub returns : goal.returns
returns c = one_table
