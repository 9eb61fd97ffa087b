use Rattle.meaning_laws.proofs.Cuts.{limits_cut}
use Rattle.meaning_laws.proofs.laws.limits_cut.Goals as goal

pub returns : goal.returns
returns c = limits_cut
