-- The type of whole numbers stands first.
use Rattle.std.proofs.Common.{refl}
use Rattle.typed.proofs.PartTrees.{int_named}
use Rattle.typed.proofs.table.TypeTable.int.Goals as goal

pub returns : goal.returns
returns c = rw c.unwrap_or.ensures (int_named c.args.self.now c.find.ensures.formed c.find.result _ refl c.find.ensures.held)
