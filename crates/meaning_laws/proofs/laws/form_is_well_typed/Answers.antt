use Rattle.meaning_laws.proofs.Formed.{form_is_well_typed}
use Rattle.meaning_laws.proofs.laws.form_is_well_typed.Goals as goal

pub returns : goal.returns
returns c = form_is_well_typed
