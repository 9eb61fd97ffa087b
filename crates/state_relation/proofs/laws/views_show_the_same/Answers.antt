use Rattle.state_relation.proofs.Views.{same_sight}
use Rattle.state_relation.proofs.laws.views_show_the_same.Goals as goal

pub returns : goal.returns
returns c = same_sight
