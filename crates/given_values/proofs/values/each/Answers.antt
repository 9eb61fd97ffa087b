use Rattle.std.proofs.Common.{rules}
use Rattle.typed.proofs.Rows.{expr_rows}
use Rattle.given_values.proofs.Items.{each_of}
use Rattle.given_values.proofs.values.each.Goals as goal

pub returns-in-Some : goal.returns-in-Some
returns-in-Some c = search (rules, expr_rows, each_of)
