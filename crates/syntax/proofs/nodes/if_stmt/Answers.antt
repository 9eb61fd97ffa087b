use Rattle.std.proofs.Common.{rules}
use Rattle.syntax.specs.declared.statement.Else.TheViews.{the_lemmas}
use Rattle.syntax.proofs.Rows.{statement_rows}
use Rattle.syntax.proofs.nodes.if_stmt.Goals as goal

pub returns : goal.returns
returns c = search (rules, the_lemmas, statement_rows)
