use Rattle.report_checks.proofs.Passed.{passed}
use Rattle.report_checks.proofs.laws.sound.Goals as goal

pub returns : goal.returns
returns c = passed
