use Rattle.std.proofs.Common.{sym, arith}
use Rattle.taken_addresses.proofs.Marked.{marked_one, marked_past}
use Rattle.taken_addresses.proofs.marking.mark_site.Goals as goal

pub returns-then-index-len : goal.returns-then-index-len
returns-then-index-len c = marked_one c.args.number c.args.sites.now.items c.index-site.result.now c.index-site.ensures (omega (arith, c.len.ensures, c.if-index-len.true))

pub returns-else-index-len : goal.returns-else-index-len
returns-else-index-len c = sym (marked_past 0 c.args.number c.args.sites.now.items (omega (arith, c.len.ensures, c.if-index-len.false)))
