use Rattle.explain.proofs.Back.{read_back}
use Rattle.explain.proofs.laws.report_is_read_back.Goals as goal

pub returns : goal.returns
returns c = read_back
