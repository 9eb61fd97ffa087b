use Rattle.meaning_laws.proofs.Runs.{longer_capped_extend}
use Rattle.meaning_laws.proofs.laws.longer_capped_extend.Goals as goal

pub returns : goal.returns
returns c = longer_capped_extend
