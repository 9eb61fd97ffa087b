use Rattle.std.specs.Prelude.{IsTrue}
use Rattle.value_laws.proofs.Equal.{compared}
use Rattle.value_laws.proofs.laws.compared_by_words.Goals as goal

pub returns : goal.returns
returns c = λ holds equal t v u xs ys each. compared (λ c w. IsTrue (holds c w)) equal each t v u xs ys
