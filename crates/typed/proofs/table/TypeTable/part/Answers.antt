-- Where there is no such part, the tree is that of the first type.
use Rattle.std.proofs.Common.{ap, ◌∙◌, refl}
use Rattle.typed.specs.Trees.{tree_named}
use Rattle.typed.proofs.PartTrees.{part_or_first}
use Rattle.typed.proofs.table.TypeTable.part.Goals as goal

pub returns : goal.returns
returns c =
    ap (λ part. tree_named c.args.self.now part.0) c.unwrap_or.ensures
    ∙ part_or_first c.args.self.now c.find_part.ensures.formed c.args.id.0 c.args.index c.find_part.result _ refl c.find_part.ensures.part
