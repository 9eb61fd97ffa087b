use Rattle.std.specs.Prelude.{◌≡◌, ◌-◌, ◌≤◌, length, drop}
use Rattle.report_checks.specs.Lines.{lines_of}
use Rattle.report_checks.specs.Verdict.{on_heap}
use Rattle.report_checks.proofs.sites.on_heap.Given as goal

abbrev pub invariant-loop-at : goal.invariant-loop-at
invariant-loop-at l = record {
  within : l.at ≤ length l.report;
  left : on_heap (lines_of l.report) l.fn.site ≡ on_heap (lines_of (drop l.at l.report)) l.fn.site;
}

abbrev pub decreases-loop-at : goal.decreases-loop-at
decreases-loop-at l = length l.report - l.at
