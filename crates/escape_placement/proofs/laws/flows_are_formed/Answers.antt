use Rattle.escape_placement.proofs.Functions.{flows_formed}
use Rattle.escape_placement.proofs.laws.flows_are_formed.Goals as goal

pub returns : goal.returns
returns c = flows_formed
