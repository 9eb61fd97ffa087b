use Rattle.value_laws.proofs.Table.{table_gives}
use Rattle.value_laws.proofs.laws.table_gives_types.Goals as goal

pub returns : goal.returns
returns c = table_gives
