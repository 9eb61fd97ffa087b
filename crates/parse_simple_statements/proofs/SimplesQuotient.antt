-- A terminal in a state of the parser of a simple statement divides the texts by it from the left.
use Rattle.std.proofs.Common.{ℕ, List, ◌∷◌}
use Rattle.base.specs.declared.pos.Pos.{Pos}
use Rattle.syntax.specs.Statements.{Simple, Targets}
use Rattle.parse_expressions.specs.declared.terminal.Terminal.{Terminal}
use Rattle.parse_expressions.specs.Grammar.{Mark, inside}
use Rattle.parse_expressions.specs.Machine as expression
use Rattle.parse_expressions.proofs.Following.{Iff}
use Rattle.parse_simple_statements.specs.Simples.{Context, expression_context, Simples, in_left, at_value, in_value, at_end, step, nesting}
use Rattle.parse_expressions.proofs.Quotient.{quotient as open_quotient}
use Rattle.parse_expressions.proofs.Viable.{valid_next as open_valid}
use Rattle.parse_simple_statements.proofs.Marks.{iff_same, iff_trans}
use Rattle.parse_simple_statements.proofs.SimplesFollowing.{BehindLeft, BehindValue, Rest, Valid, Apart, After}
use Rattle.parse_simple_statements.proofs.SimplesSteps.{left_after, left_is_apart, operator_step, value_after, value_is_apart}

pub quotient : (p : Context) (K : Simple → List Mark → Type 0) (R : Targets → Pos → List Mark → Type 0) (s : Simples) (t : Terminal) (j : ℕ) (w : List Mark) → Valid p s → Apart p K → Iff (Rest p K R s (inside t j ∷ w)) (After p K R (step p s t) (nesting p s t) t j w)
quotient p K R (in_left es o) t j w valid apart =
    iff_trans _ _ _
    (open_quotient (expression_context p) (BehindLeft p K R es) o t j w valid (left_is_apart p K R apart es))
    (left_after p K R apart es o t j w (expression.step (expression_context p) o t) (open_valid (expression_context p) o t valid))
quotient p K R (at_value l) t j w valid apart = operator_step p K R apart l t j w
quotient p K R (in_value l es o) t j w valid apart =
    iff_trans _ _ _
    (open_quotient (expression_context p) (BehindValue p K l es) o t j w valid (value_is_apart p K R apart l es))
    (value_after p K R apart l es o t j w (expression.step (expression_context p) o t) (open_valid (expression_context p) o t valid))
quotient p K R (at_end s) t j w valid apart = iff_same _
