use Rattle.meaning_laws.proofs.Pointing.{pointers_name_variables}
use Rattle.meaning_laws.proofs.laws.pointers_name_variables.Goals as goal

pub returns : goal.returns
returns c = pointers_name_variables
