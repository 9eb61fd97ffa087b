use Rattle.std.proofs.Common.{None, sym, ap, ◌∙◌, List}
use Rattle.deref_walk.specs.declared.graph.Location.{Location}
use Rattle.report_checks.specs.Lines.{lines_of}
use Rattle.report_checks.specs.Verdict.{answer}
use Rattle.report_checks.specs.Gaps.{first_gap}
use Rattle.report_checks.proofs.Gapped.{told}
use Rattle.report_checks.proofs.checking.check_report.Goals as goal

pub returns-in-Some-first_gap : goal.returns-in-Some-first_gap
unfolding answer
returns-in-Some-first_gap c =
    let g = c.args.graph.now in
    let read = lines_of c.args.report.now in
    told g.edges.items g.locations.items read _ (sym c.in_default.is ∙ c.first_fault.ensures) (sym c.in-Some-first_gap.is ∙ c.first_gap.ensures ∙ ap (λ (xs : List Location). first_gap xs None read) c.deref.ensures.value)

pub returns : goal.returns
unfolding answer
returns c =
    let g = c.args.graph.now in
    let read = lines_of c.args.report.now in
    told g.edges.items g.locations.items read _ (sym c.in_default.is ∙ c.first_fault.ensures) (sym c.in_default-first_gap.is ∙ c.first_gap.ensures ∙ ap (λ (xs : List Location). first_gap xs None read) c.deref.ensures.value)
