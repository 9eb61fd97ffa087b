use Rattle.parse_simple_statements.proofs.SimplesForetelling.{simple_states_foretell}
use Rattle.parse_simple_statements.proofs.laws.simple_states_foretell.Goals as goal

pub returns : goal.returns
returns c = simple_states_foretell
