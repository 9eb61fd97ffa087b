use Rattle.std.proofs.Common.{◌+◌, ◌<◌, ◌≤◌, drop, sym, ap, ◌∙◌, arith}
use Rattle.report_checks.specs.Lines.{lines_of}
use Rattle.report_checks.specs.Verdict.{on_heap, first_fault}
use Rattle.report_checks.specs.declared.state.State.{State}
use Rattle.report_checks.proofs.Judged.{at_fault, at_none, at_end}
use Rattle.report_checks.proofs.Splitting.{lines_end}
use Rattle.report_checks.proofs.checking.first_fault.Goals as goal

pub returns-in-Some : goal.returns-in-Some
returns-in-Some c =
    let g = c.args.graph.now in
    let l = c.loop-at in
    sym (l.invariant.left ∙ at_fault g.edges.items g.locations.items (on_heap (lines_of c.args.report.now)) l.state l.number c.line_at-read.result.line _ _ c.next_at-next.result c.in-Some.fault c.line_at-read.ensures.is c.next_at-next.ensures (sym c.in-Some.is ∙ c.fault_of.ensures))

pub loop-at-preserved : goal.loop-at-preserved
loop-at-preserved c =
    let g = c.args.graph.now in
    let l = c.loop-at in
    let read = c.line_at-read in
    let heap = on_heap (lines_of c.args.report.now) in
    record {
      within = read.ensures.within;
      counted = (let h : l.number ≤ l.at + 1 = l.invariant.counted in let k : l.at < read.result.next = read.ensures.onward in omega arith);
      left = l.invariant.left ∙ at_none g.edges.items g.locations.items heap l.state l.number read.result.line _ _ c.next_at-next.result read.ensures.is c.next_at-next.ensures (sym c.in_default.is ∙ c.fault_of.ensures)
          ∙ ap (λ (s : State). first_fault g.edges.items g.locations.items heap s (l.number + 1) (lines_of (drop read.result.next c.args.report.now))) (sym c.state_after-state.ensures);
    }

pub returns : goal.returns
returns c =
    let g = c.args.graph.now in
    let l = c.loop-at in
    sym (l.invariant.left ∙ at_end g.edges.items g.locations.items (on_heap (lines_of c.args.report.now)) l.state l.number _ (lines_end c.args.report.now l.at c.loop-at-test.false))
