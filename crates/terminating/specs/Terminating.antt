-- Terminating statements: nothing goes on after them (Go specification, "Terminating statements").
use Rattle.std.specs.Prelude.{ℕ, Bool, true, false, not, ◌&&◌, ◌||◌, List, Option, Some, None, is_some}
use Rattle.syntax.specs.declared.expression.Name.{Name}
use Rattle.syntax.specs.Expressions.{Ex as TreeEx, spelled}
use Rattle.syntax.specs.Expressions as expressions
use Rattle.syntax.specs.Statements.{Simple, Clause, forever, while_true, counting, ranging, Stm, Stms, Els}
use Rattle.syntax.specs.Statements as tree
use Rattle.names.specs.declared.scope.Declared.{Declared}
use Rattle.names.specs.declared.scope.Declared.TheVariants.{Panic}
use Rattle.names.specs.Scope.{Scope, declaration}
use Rattle.names.specs.Naming.{name_in}

-- whether a loop has no condition
abbrev pub is_endless : Clause → Bool
is_endless forever = true
is_endless (while_true e) = false
is_endless (counting init test1 post) = not (is_some test1)
is_endless (ranging t pos e) = false

-- whether a `break` leaves the loop around a statement
abbrev mutual
  pub leaves : Stm → Bool
  leaves (tree.var_stmt pos specs) = false
  leaves (tree.simple m) = false
  leaves (tree.block ms) = leaves_any ms
  leaves (tree.if_stmt pos g body rest) = leaves_any body || leaves_else rest
  leaves (tree.for_stmt pos c body) = false
  leaves (tree.break_stmt pos) = true
  leaves (tree.continue_stmt pos) = false
  leaves (tree.return_stmt pos es) = false

  pub leaves_else : Els → Bool
  leaves_else tree.no_else = false
  leaves_else (tree.else_block ms) = leaves_any ms
  leaves_else (tree.else_if pos g body rest) = leaves_any body || leaves_else rest

  pub leaves_any : Stms → Bool
  leaves_any tree.nil = false
  leaves_any (tree.cons m ms) = leaves m || leaves_any ms

abbrev pub is_panic : Option Declared → Bool
is_panic (Some Panic) = true
is_panic other = false

-- in the scope around a function: a variable of the function that has the name of `panic` can't be called at all
module _ (text : List ℕ) (s : Scope) where
  -- a call of `panic`
  abbrev pub names_panic : Option Name → Bool
  names_panic None = false
  names_panic (Some n) = is_panic (declaration s (spelled text n))

  abbrev pub panics : TreeEx → Bool
  panics (expressions.call g es spread) = names_panic (name_in g)
  panics (expressions.paren pos e) = panics e
  panics other = false

  abbrev pub ends_simple : Simple → Bool
  ends_simple (tree.express e) = panics e
  ends_simple other = false

  abbrev mutual
    pub is_terminating : Stm → Bool
    is_terminating (tree.var_stmt pos specs) = false
    is_terminating (tree.simple m) = ends_simple m
    is_terminating (tree.block ms) = ends_after false ms
    is_terminating (tree.if_stmt pos g body rest) = ends_after false body && is_terminating_else rest
    is_terminating (tree.for_stmt pos c body) = is_endless c && not (leaves_any body)
    is_terminating (tree.break_stmt pos) = false
    is_terminating (tree.continue_stmt pos) = false
    is_terminating (tree.return_stmt pos es) = true

    pub is_terminating_else : Els → Bool
    is_terminating_else tree.no_else = false
    is_terminating_else (tree.else_block ms) = ends_after false ms
    is_terminating_else (tree.else_if pos g body rest) = ends_after false body && is_terminating_else rest

    -- whether the last of some statements is terminating, after one of which that is known
    pub ends_after : Bool → Stms → Bool
    ends_after ends tree.nil = ends
    ends_after ends (tree.cons m ms) = ends_after (is_terminating m) ms

  abbrev pub ends_in_terminating : Stms → Bool
  ends_in_terminating ms = ends_after false ms
