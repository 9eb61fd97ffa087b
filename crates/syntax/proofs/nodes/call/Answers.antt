use Rattle.std.proofs.Common.{rules}
use Rattle.syntax.specs.declared.expression.Bound.TheViews.{the_lemmas}
use Rattle.syntax.proofs.Rows.{argument_rows}
use Rattle.syntax.proofs.nodes.call.Goals as goal

pub returns : goal.returns
returns c = search (rules, the_lemmas, argument_rows)
