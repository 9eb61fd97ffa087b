use Rattle.std.proofs.Common.{sym, ap, ◌∙◌, List, Option}
use Rattle.report_checks.specs.declared.line.Line.{Line}
use Rattle.report_checks.specs.Verdict.{on_heap}
use Rattle.report_checks.proofs.Splitting.{lines_end}
use Rattle.report_checks.proofs.sites.on_heap.Goals as goal

pub returns : goal.returns
returns c = sym (c.loop-at.invariant.left ∙ ap (λ (read : List (Option Line)). on_heap read c.args.site) (lines_end c.args.report.now c.loop-at.at c.loop-at-test.false))
