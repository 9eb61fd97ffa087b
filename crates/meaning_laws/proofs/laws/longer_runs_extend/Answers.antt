use Rattle.meaning_laws.proofs.Runs.{longer_runs_extend}
use Rattle.meaning_laws.proofs.laws.longer_runs_extend.Goals as goal

pub returns : goal.returns
returns c = longer_runs_extend
