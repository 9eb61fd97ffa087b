use Rattle.std.specs.Prelude.{◌≡◌, ◌≤◌, length, drop}
use Rattle.report_checks.specs.Verdict.{least_site}
use Rattle.report_checks.specs.Gaps.{is_between}
use Rattle.report_checks.proofs.gaps.least_between.Given as goal

abbrev pub invariant-loop-left : goal.invariant-loop-left
invariant-loop-left l = record {
  within : l.left ≤ length l.locations;
  so_far : l.least ≡ least_site (is_between l.fn.last l.fn.end) (drop l.left l.locations);
}

abbrev pub decreases-loop-left : goal.decreases-loop-left
decreases-loop-left l = l.left
