use Rattle.escape_placement.proofs.Exact.{reasons_count}
use Rattle.escape_placement.proofs.laws.reasons_count.Goals as goal

pub returns : goal.returns
returns c = reasons_count
