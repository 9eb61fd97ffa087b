use Rattle.value_laws.proofs.Parts.{typed}
use Rattle.value_laws.proofs.laws.parts_are_typed.Goals as goal

pub returns : goal.returns
returns c = typed
