use Rattle.explain.proofs.Ascending.{tags_ascend}
use Rattle.explain.proofs.laws.solved_tags_ascend.Goals as goal

pub returns : goal.returns
returns c = tags_ascend
