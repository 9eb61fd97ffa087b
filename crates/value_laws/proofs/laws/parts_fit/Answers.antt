use Rattle.value_laws.proofs.Parts.{fits}
use Rattle.value_laws.proofs.laws.parts_fit.Goals as goal

pub returns : goal.returns
returns c = fits
