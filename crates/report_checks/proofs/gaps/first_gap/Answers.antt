use Rattle.std.proofs.Common.{Option, drop, sym, ap, ◌∙◌}
use Rattle.base.specs.declared.ids.SiteId.{SiteId}
use Rattle.report_checks.specs.Lines.{lines_of}
use Rattle.report_checks.specs.Gaps.{or_site, first_gap}
use Rattle.report_checks.proofs.Gapped.{at_line, past_lines}
use Rattle.report_checks.proofs.Splitting.{lines_end}
use Rattle.report_checks.proofs.gaps.first_gap.Goals as goal

pub returns-in-Some : goal.returns-in-Some
returns-in-Some c =
    let l = c.loop-at in
    let read = c.line_at-read in
    sym (l.invariant.left ∙ at_line c.args.locations.now l.last read.result.line _ _ c.site_of-site.result c.gap_before.result read.ensures.is c.site_of-site.ensures c.gap_before.ensures
    ∙ ap (λ (gap : Option SiteId). or_site gap (first_gap c.args.locations.now (or_site c.site_of-site.result l.last) (lines_of (drop read.result.next c.args.report.now)))) c.in-Some.is)

pub loop-at-preserved : goal.loop-at-preserved
loop-at-preserved c =
    let l = c.loop-at in
    let read = c.line_at-read in
    let rest = lines_of (drop read.result.next c.args.report.now) in
    record {
      within = read.ensures.within;
      left = l.invariant.left ∙ at_line c.args.locations.now l.last read.result.line _ _ c.site_of-site.result c.gap_before.result read.ensures.is c.site_of-site.ensures c.gap_before.ensures
          ∙ ap (λ (gap : Option SiteId). or_site gap (first_gap c.args.locations.now (or_site c.site_of-site.result l.last) rest)) c.in_default.is
          ∙ ap (λ (last : Option SiteId). first_gap c.args.locations.now last rest) (sym c.or_site-last.ensures);
    }

pub returns : goal.returns
returns c = c.least_between.ensures ∙ sym (c.loop-at.invariant.left ∙ past_lines c.args.locations.now c.loop-at.last _ (lines_end c.args.report.now c.loop-at.at c.loop-at-test.false))
