use Rattle.scan_go.proofs.LongestOperator.{longest}
use Rattle.scan_go.proofs.scanning.longest_operator.Goals as goal

pub returns : goal.returns
returns c = λ rest x y found begins. longest rest x y found begins
