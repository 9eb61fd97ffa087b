use Rattle.std.proofs.Common.{sym}
use Rattle.machine.proofs.Placed.{placed, frame_read, frame_linked}
use Rattle.machine.proofs.code_tables.Tables.frame_at.Goals as goal

pub bounds-funcs-owners : goal.bounds-funcs-owners
bounds-funcs-owners c = (placed _ c.args.place c.self.invariant (rw (sym c.self.view_is) at c.requires)).inside

pub returns-clause-is : goal.returns-clause-is
returns-clause-is c = rw (sym c.self.view_is) (frame_read _ _ _ (placed _ c.args.place c.self.invariant (rw (sym c.self.view_is) at c.requires)))

pub returns-clause-linked : goal.returns-clause-linked
returns-clause-linked c = frame_linked _ _ _ (placed _ c.args.place c.self.invariant (rw (sym c.self.view_is) at c.requires))
