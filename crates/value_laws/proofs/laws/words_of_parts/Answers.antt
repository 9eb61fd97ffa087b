use Rattle.value_laws.proofs.Parts.{part_words}
use Rattle.value_laws.proofs.laws.words_of_parts.Goals as goal

pub returns : goal.returns
returns c = part_words
