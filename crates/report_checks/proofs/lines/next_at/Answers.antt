use Rattle.report_checks.proofs.Splitting.{next_end, next_line}
use Rattle.report_checks.proofs.lines.next_at.Goals as goal

pub returns-then-at-report : goal.returns-then-at-report
returns-then-at-report c = next_end c.args.report.now c.args.at c.if-at-report.true

pub returns : goal.returns
returns c = next_line c.args.report.now c.args.at c.line_at-read.result.line _ c.kind_of.result c.line_at-read.ensures.is c.kind_of.ensures
