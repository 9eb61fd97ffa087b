use Rattle.escape_placement.proofs.Exact.{placed_exactly}
use Rattle.escape_placement.proofs.laws.placed_exactly.Goals as goal

pub returns : goal.returns
returns c = placed_exactly
