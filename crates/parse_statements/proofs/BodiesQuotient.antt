-- A terminal in a state of the parser of a body divides the texts by it from the left.
use Rattle.std.proofs.Common.{ℕ, List, ◌∷◌}
use Rattle.base.specs.declared.pos.Pos.{Pos}
use Rattle.syntax.specs.Statements.{Stms}
use Rattle.parse_expressions.specs.declared.terminal.Terminal.{Terminal}
use Rattle.parse_expressions.specs.Grammar.{Mark, inside}
use Rattle.parse_expressions.proofs.Following.{Iff}
use Rattle.parse_statements.specs.Bodies.{State, at_statement, in_var, in_simple, at_return, in_return, at_if, in_condition, at_for, at_second, in_second, at_post, in_range, at_then, at_else, at_stop, step, nesting}
use Rattle.parse_statements.proofs.BodiesFollowing.{Rest, Valid, After}
use Rattle.parse_statements.proofs.BodiesEnds.{stop_step}
use Rattle.parse_statements.proofs.BodiesSimples.{simple_step}
use Rattle.parse_statements.proofs.BodiesValues.{var_step, return_step, returned_step}
use Rattle.parse_statements.proofs.BodiesHeaders.{if_step, condition_step, second_step, in_second_step, post_step, range_step}
use Rattle.parse_statements.proofs.BodiesFor.{for_step}
use Rattle.parse_statements.proofs.BodiesElse.{then_step, else_step}
use Rattle.parse_statements.proofs.BodiesStatements.{statement_step}

pub quotient : (K : Stms → Pos → List Mark → Type 0) (s : State) (t : Terminal) (j : ℕ) (w : List Mark) → Valid s → Iff (Rest K s (inside t j ∷ w)) (After K (step s t) (nesting s t) j w)
quotient K (at_statement b) t j w valid = statement_step K b t j w
quotient K (in_var b pos s) t j w valid = var_step K b pos s t j w valid
quotient K (in_simple b s p) t j w valid = simple_step K b s p t j w valid
quotient K (at_return b pos) t j w valid = return_step K b pos t j w
quotient K (in_return b pos es o) t j w valid = returned_step K b pos es o t j w valid
quotient K (at_if b bs pos) t j w valid = if_step K b bs pos t j w
quotient K (in_condition b bs pos i o) t j w valid = condition_step K b bs pos i o t j w valid
quotient K (at_for b pos) t j w valid = for_step K b pos t j w
quotient K (at_second b pos i) t j w valid = second_step K b pos i t j w
quotient K (in_second b pos i o) t j w valid = in_second_step K b pos i o t j w valid
quotient K (at_post b pos i c) t j w valid = post_step K b pos i c t j w
quotient K (in_range b pos vars at o) t j w valid = range_step K b pos vars at o t j w valid
quotient K (at_then b bs last) t j w valid = then_step K b bs last t j w
quotient K (at_else b bs last) t j w valid = else_step K b bs last t j w
quotient K (at_stop b) t j w valid = stop_step K b t j w
