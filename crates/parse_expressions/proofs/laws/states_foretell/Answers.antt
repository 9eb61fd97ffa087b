use Rattle.parse_expressions.proofs.Foretelling.{states_foretell}
use Rattle.parse_expressions.proofs.laws.states_foretell.Goals as goal

pub returns : goal.returns
returns c = states_foretell
