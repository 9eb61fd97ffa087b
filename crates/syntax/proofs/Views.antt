-- What the fields of an expression or a statement are, with the rows as lists.
use Rattle.syntax.specs.declared.expression.Bound.TheViews.{the_lemmas as expr_lemmas}
use Rattle.syntax.specs.declared.statement.Else.TheViews.{the_lemmas as stmt_lemmas}
use Rattle.syntax.proofs.Rows.{argument_rows, element_rows, statement_rows}

-- for `using`
pub ruleset expr_rows = (expr_lemmas, argument_rows, element_rows)

pub ruleset stmt_rows = (stmt_lemmas, statement_rows)
