use Rattle.std.proofs.Common.{◌∙◌}
use Rattle.names.proofs.Tables.{entries_looked_up}
use Rattle.names.proofs.blocks.look_up.Goals as goal

pub returns : goal.returns
returns c = c.copied.ensures ∙ (c.get.ensures.value ∙ entries_looked_up c.args.table.now.entries c.args.name.now)
