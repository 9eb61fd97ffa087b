use Rattle.param_tags.proofs.Growing.{one_set}
use Rattle.param_tags.proofs.laws.one_heap_set.Goals as goal

pub returns : goal.returns
returns c = one_set
