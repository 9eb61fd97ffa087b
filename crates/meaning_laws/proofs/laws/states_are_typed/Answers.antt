use Rattle.meaning_laws.proofs.Preserving.{states_are_typed}
use Rattle.meaning_laws.proofs.laws.states_are_typed.Goals as goal

pub returns : goal.returns
returns c = states_are_typed
