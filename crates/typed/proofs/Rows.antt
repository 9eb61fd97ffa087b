-- A row of expressions, steps, elements or statements is the list of its vector's items.
use Rattle.std.proofs.Common.{◌≡◌, refl, ap}
use mathlib.Core.Former.{Count}
use Rattle.typed.specs.declared.expr.Values.{Row_of-Expr, end_of-Expr, more_of-Expr, items-the_row-Expr}
use Rattle.typed.specs.declared.expr.Place.{Row_of-Step, end_of-Step, more_of-Step, items-the_row-Step}
use Rattle.typed.specs.declared.expr.Expr.{Row_of-Element, end_of-Element, more_of-Element, items-the_row-Element}
use Rattle.typed.specs.declared.expr.Step.TheVariants as way
use Rattle.typed.specs.declared.expr.Element.TheVariants as item
use Rattle.typed.specs.declared.expr.Bound.TheViews.{the_lemmas as expr_lemmas}
use Rattle.typed.specs.declared.stmt.Stmt.{Row_of-Stmt, end_of-Stmt, more_of-Stmt, items-the_row-Stmt}
use Rattle.typed.specs.declared.stmt.Stmt.TheViews.{the_lemmas as stmt_lemmas}
use Rattle.typed.specs.Positions.{position}
use Rattle.typed_syntax.specs.Syntax.{more, inner, at_index, element, next}
use Rattle.typed.specs.View.{ex_of, exs_of, exs_of_row, steps_of, steps_of_row, elements_of, elements_of_row, st_of, sts_of, sts_of_row}

pub expr_items : (n : Count) (k : Row_of-Expr n) → exs_of_row k ≡ exs_of (items-the_row-Expr n k)
expr_items n end_of-Expr = refl
expr_items n (more_of-Expr e rest) = ap (more (ex_of e)) (expr_items _ rest)

pub step_items : (n : Count) (k : Row_of-Step n) → steps_of_row k ≡ steps_of (items-the_row-Step n k)
step_items n end_of-Step = refl
step_items n (more_of-Step (way.Inner i) rest) = ap (inner i) (step_items _ rest)
step_items n (more_of-Step (way.Index at e length) rest) = ap (at_index (position at) (ex_of e) length) (step_items _ rest)

pub element_items : (n : Count) (k : Row_of-Element n) → elements_of_row k ≡ elements_of (items-the_row-Element n k)
element_items n end_of-Element = refl
element_items n (more_of-Element (item.For i e) rest) = ap (element i (ex_of e)) (element_items _ rest)

pub stmt_items : (n : Count) (k : Row_of-Stmt n) → sts_of_row k ≡ sts_of (items-the_row-Stmt n k)
stmt_items n end_of-Stmt = refl
stmt_items n (more_of-Stmt s rest) = ap (next (st_of s)) (stmt_items _ rest)

-- for `using`: what the fields of an expression or a statement are, with the rows as lists
pub ruleset expr_rows = (expr_lemmas, expr_items, step_items, element_items)

pub ruleset stmt_rows = (stmt_lemmas, stmt_items)
