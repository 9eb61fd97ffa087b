use Rattle.meaning_laws.proofs.Runs.{longer_sources_extend}
use Rattle.meaning_laws.proofs.laws.longer_sources_extend.Goals as goal

pub returns : goal.returns
returns c = longer_sources_extend
