use Rattle.value_laws.proofs.Parts.{leads_to}
use Rattle.value_laws.proofs.laws.paths_lead_once.Goals as goal

pub returns : goal.returns
returns c = leads_to
