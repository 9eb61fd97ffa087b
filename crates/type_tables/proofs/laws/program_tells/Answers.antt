use Rattle.type_tables.proofs.Whole.{program_tells_each}
use Rattle.type_tables.proofs.laws.program_tells.Goals as goal

pub returns : goal.returns
returns c = program_tells_each
