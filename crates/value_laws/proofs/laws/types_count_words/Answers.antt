use Rattle.value_laws.proofs.Parts.{counted}
use Rattle.value_laws.proofs.laws.types_count_words.Goals as goal

pub returns : goal.returns
returns c = counted
