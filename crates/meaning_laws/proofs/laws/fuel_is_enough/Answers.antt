use Rattle.meaning_laws.proofs.Runs.{fuel_is_enough}
use Rattle.meaning_laws.proofs.laws.fuel_is_enough.Goals as goal

pub returns : goal.returns
returns c = fuel_is_enough
