use Rattle.typed_flows.proofs.Tables.{known_is}
use Rattle.typed_flows.proofs.pointers.known_at.Goals as goal

pub returns : goal.returns
returns c = known_is c.args.table.now c.args.known.now c.args.id.0 c.entry.result c.requires c.entry.ensures
