use Rattle.parse_go.proofs.OneFault.{one_fault}
use Rattle.parse_go.proofs.laws.one_fault.Goals as goal

pub returns : goal.returns
returns c = one_fault
