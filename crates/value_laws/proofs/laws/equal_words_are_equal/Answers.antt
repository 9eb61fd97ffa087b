use Rattle.value_laws.proofs.Equal.{equal_words}
use Rattle.value_laws.proofs.laws.equal_words_are_equal.Goals as goal

pub returns : goal.returns
returns c = equal_words
