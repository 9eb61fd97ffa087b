use Rattle.std.specs.Prelude.{◌≡◌, ◌+◌, ◌-◌, ◌≤◌, None, length, drop}
use Rattle.report_checks.specs.Lines.{lines_of}
use Rattle.report_checks.specs.declared.state.State.TheVariants.{Sites}
use Rattle.report_checks.specs.Verdict.{on_heap, first_fault}
use Rattle.report_checks.proofs.checking.first_fault.Given as goal

abbrev pub invariant-loop-at : goal.invariant-loop-at
invariant-loop-at l = record {
  within : l.at ≤ length l.report;
  counted : l.number ≤ l.at + 1;
  left : first_fault l.graph.edges.items l.graph.locations.items (on_heap (lines_of l.report)) (Sites None) 1 (lines_of l.report)
      ≡ first_fault l.graph.edges.items l.graph.locations.items (on_heap (lines_of l.report)) l.state l.number (lines_of (drop l.at l.report));
}

abbrev pub decreases-loop-at : goal.decreases-loop-at
decreases-loop-at l = length l.report - l.at
