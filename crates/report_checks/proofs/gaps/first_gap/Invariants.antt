use Rattle.std.specs.Prelude.{◌≡◌, ◌-◌, ◌≤◌, None, length, drop}
use Rattle.report_checks.specs.Lines.{lines_of}
use Rattle.report_checks.specs.Gaps.{first_gap}
use Rattle.report_checks.proofs.gaps.first_gap.Given as goal

abbrev pub invariant-loop-at : goal.invariant-loop-at
invariant-loop-at l = record {
  within : l.at ≤ length l.report;
  left : first_gap l.locations None (lines_of l.report) ≡ first_gap l.locations l.last (lines_of (drop l.at l.report));
}

abbrev pub decreases-loop-at : goal.decreases-loop-at
decreases-loop-at l = length l.report - l.at
