use Rattle.struct_sizes.proofs.Settled.{one_answer}
use Rattle.struct_sizes.proofs.laws.one_answer.Goals as goal

pub returns : goal.returns
returns c = one_answer
