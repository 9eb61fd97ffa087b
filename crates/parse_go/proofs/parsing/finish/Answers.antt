use Rattle.parse_go.proofs.TextSteps.{ends_not}
use Rattle.parse_go.proofs.parsing.finish.Goals as goal

pub returns-in_default : goal.returns-in_default
returns-in_default c = ends_not c.args.state c.in_default.not-Declaration
