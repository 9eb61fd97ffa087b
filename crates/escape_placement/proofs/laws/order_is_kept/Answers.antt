use Rattle.escape_placement.proofs.Ordered.{order_kept}
use Rattle.escape_placement.proofs.laws.order_is_kept.Goals as goal

pub returns : goal.returns
returns c = order_kept
