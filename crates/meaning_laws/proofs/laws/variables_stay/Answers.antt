use Rattle.meaning_laws.proofs.Runs.{variables_stay}
use Rattle.meaning_laws.proofs.laws.variables_stay.Goals as goal

pub returns : goal.returns
returns c = variables_stay
