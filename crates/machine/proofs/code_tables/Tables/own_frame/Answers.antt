use Rattle.machine.proofs.Placed.{room_at}
use Rattle.machine.proofs.code_tables.Tables.own_frame.Goals as goal

pub returns-clause-room : goal.returns-clause-room
returns-clause-room c = rw c.frame_at.ensures.is (room_at _ _ _ _ c.requires.inside)
