use Rattle.type_tables.proofs.Standing.{one_number}
use Rattle.type_tables.proofs.laws.one_number.Goals as goal

pub returns : goal.returns
returns c = one_number
