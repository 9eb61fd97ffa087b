use Rattle.std.proofs.Common.{sym}
use Rattle.std.proofs.lemmas.Option.{slice_get-get_or}
use Rattle.machine.proofs.Placed.{touched_at, led_at}
use Rattle.machine.proofs.code_tables.Tables.fetch.Goals as goal

pub returns-clause-touches : goal.returns-clause-touches
returns-clause-touches c =
    rw (sym c.self.view_is)
    (touched_at _ _ c.args.at.pc _ _ c.self.invariant (rw (sym c.self.view_is) at c.requires.inside) (slice_get-get_or _ _ _ (rw (sym c.self.view_is) at c.requires.place)))

pub returns-clause-leads : goal.returns-clause-leads
returns-clause-leads c =
    rw (sym c.self.view_is)
    (led_at _ _ c.args.at.pc _ _ c.self.invariant (rw (sym c.self.view_is) at c.requires.inside) (slice_get-get_or _ _ _ (rw (sym c.self.view_is) at c.requires.place)))
