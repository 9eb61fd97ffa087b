use Rattle.std.proofs.Common.{subst, sym}
use Rattle.report_checks.specs.Texts.{IsLineOf}
use Rattle.report_checks.proofs.Exact.{exact}
use Rattle.report_checks.proofs.reading.read_line.Goals as goal

pub returns-clause-exact : goal.returns-clause-exact
returns-clause-exact c = subst (IsLineOf c.args.text.now) (sym c.read_text.ensures) (exact c.args.text.now)
