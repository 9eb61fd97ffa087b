use Rattle.std.proofs.Common.{sym, ap, ◌∙◌, ◌++◌}
use Rattle.typed.specs.View.{sts_of}
use Rattle.taken_addresses.specs.Takes.{marked, taken_by_all}
use Rattle.taken_addresses.proofs.Marked.{marked_next, marked_last}
use Rattle.taken_addresses.proofs.marking.mark.Goals as goal

pub loop-number-preserved : goal.loop-number-preserved
loop-number-preserved c =
    marked_next c.deref-number-items.result.now c.loop-number.number-index 0 c.loop-number.sites.items c.mark_site.new.sites.items c.loop-number-test.true c.mark_site.ensures
    ∙ c.loop-number.invariant

pub returns : goal.returns
returns c =
    let found = c.deref-number-items.ensures.value ∙ c.in_ok-add_stmts.ensures ∙ ap (λ l. l ++ taken_by_all (sts_of c.args.body.now)) c.new-found.ensures.items in
    sym (marked_last c.deref-number-items.result.now c.loop-number.number-index c.loop-number.sites.items c.loop-number-test.false)
    ∙ c.loop-number.invariant ∙ ap (λ l. marked l c.args.sites.now.items) found
