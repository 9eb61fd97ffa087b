use Rattle.report_checks.proofs.Splitting.{first_at, only_at}
use Rattle.report_checks.proofs.lines.line_at.Goals as goal

pub returns-then-length-text-clause-is : goal.returns-then-length-text-clause-is
returns-then-length-text-clause-is c = first_at c.args.report.now c.args.at c.front_length-length.result c.read_line-line.result c.front_length-length.ensures.is c.if-length-text.true c.read_line-line.ensures.is

pub returns-else-length-text-clause-is : goal.returns-else-length-text-clause-is
returns-else-length-text-clause-is c = only_at c.args.report.now c.args.at c.front_length-length.result c.front_length-length.ensures.is c.if-length-text.false c.requires
