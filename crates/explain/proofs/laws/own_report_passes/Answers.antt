use Rattle.explain.proofs.Standing.{supported_passes}
use Rattle.explain.proofs.laws.own_report_passes.Goals as goal

pub returns : goal.returns
returns c = supported_passes
