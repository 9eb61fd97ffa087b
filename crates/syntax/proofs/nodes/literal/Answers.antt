use Rattle.std.proofs.Common.{rules}
use Rattle.syntax.specs.declared.expression.Bound.TheViews.{the_lemmas}
use Rattle.syntax.proofs.Rows.{element_rows}
use Rattle.syntax.proofs.nodes.literal.Goals as goal

pub returns : goal.returns
returns c = search (rules, the_lemmas, element_rows)
