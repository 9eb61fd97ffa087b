use Rattle.parse_simple_statements.proofs.SpecsForetelling.{spec_states_foretell}
use Rattle.parse_simple_statements.proofs.laws.spec_states_foretell.Goals as goal

pub returns : goal.returns
returns c = spec_states_foretell
