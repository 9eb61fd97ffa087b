-- What has no tree has the words of a whole number.
use Rattle.std.proofs.Common.{ap, ◌∙◌}
use Rattle.std.specs.Option.{unwrap_or}
use Rattle.typed.proofs.PartTrees.{named_width}
use Rattle.typed.proofs.table.TypeTable.width.Goals as goal

pub returns : goal.returns
returns c = c.unwrap_or.ensures ∙ ap (λ o. unwrap_or o 1) c.words_at.ensures ∙ named_width c.args.self.now c.args.id.0
