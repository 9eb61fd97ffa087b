-- A terminal in a declaration of variables or in the values of a `return` divides the texts by it from the left.
use Rattle.std.proofs.Common.{◌≡◌, ℕ, true, List, [], ◌∷◌, subst}
use Rattle.base.specs.declared.pos.Pos.{Pos}
use Rattle.syntax.specs.Expressions.{Ex, Exs, none}
use Rattle.syntax.specs.Statements.{var_stmt, return_stmt, Stms}
use Rattle.syntax.specs.Lists.{with_ex}
use Rattle.parse_expressions.specs.declared.terminal.Terminal.{Terminal}
use Rattle.parse_expressions.specs.declared.terminal.Terminal.TheVariants.{Comma, Semicolon, RightBrace}
use Rattle.parse_expressions.specs.Grammar.{Mark, inside}
use Rattle.parse_expressions.specs.Machine as expression
use Rattle.parse_expressions.specs.Machine.{Open, at_operand, operand}
use Rattle.parse_expressions.proofs.Following as following
use Rattle.parse_expressions.proofs.Following.{Iff}
use Rattle.parse_simple_statements.specs.Grammar.{of_variables}
use Rattle.parse_simple_statements.specs.ValueSpecs as value_specs
use Rattle.parse_simple_statements.specs.ValueSpecs.{Specs}
use Rattle.parse_statements.specs.Outer.{Blocks, statement_depth, with_statement}
use Rattle.parse_statements.specs.Bodies.{in_var, at_return, in_return, value_context, after_var, behind_returned, after_returned, step, nesting_at_stop, nesting_after, nesting_var}
use Rattle.parse_expressions.proofs.Quotient.{quotient as open_quotient}
use Rattle.parse_expressions.proofs.Viable.{valid_next as open_valid}
use Rattle.parse_simple_statements.proofs.Marks.{iff_same, iff_trans, only_left, only_right}
use Rattle.parse_simple_statements.proofs.Starts.{NeverEnds, operand_starts}
use Rattle.parse_simple_statements.proofs.ValueLists.{Values, MoreValues, values_begin, values_comma, values_other, values_apart, value_valid}
use Rattle.parse_simple_statements.proofs.ValueSpecsFollowing as specs_following
use Rattle.parse_simple_statements.proofs.ValueSpecsQuotient.{quotient}
use Rattle.parse_statements.proofs.BodiesFollowing.{Declared, Returned, Rest, After}
use Rattle.parse_statements.proofs.BodiesEnds.{stop_step, stop_other}

module _ (K : Stms → Pos → List Mark → Type 0) (b : Blocks) (pos : Pos) where
  -- ---- a declaration of variables

  declared_is_apart : specs_following.Apart (Declared K b pos)
  declared_is_apart = record { never = λ done t j w on h. stop_other K (with_statement b (var_stmt pos done)) t j w (λ is. subst specs_following.GoesOn is on) (λ q is. subst specs_following.GoesOn is on) h }

  var_after : (s : Specs) (t : Terminal) (j : ℕ) (w : List Mark) (q : value_specs.Progress) → Iff (specs_following.After of_variables (statement_depth b) (Declared K b pos) q (value_specs.nesting (statement_depth b) s t) t j w) (After K (after_var b pos t q) (nesting_var b s t q) j w)
  var_after s t j w value_specs.fails = iff_same _
  var_after s t j w (value_specs.goes r) = iff_same _
  var_after s t j w (value_specs.ends done) = stop_step K (with_statement b (var_stmt pos done)) t j w

  pub var_step : (s : Specs) (t : Terminal) (j : ℕ) (w : List Mark) → specs_following.Valid (statement_depth b) s → Iff (Rest K (in_var b pos s) (inside t j ∷ w)) (After K (step (in_var b pos s) t) (nesting_var b s t (value_specs.step of_variables (statement_depth b) s t)) j w)
  var_step s t j w valid = iff_trans _ _ _ (quotient of_variables (statement_depth b) (Declared K b pos) s t j w valid declared_is_apart) (var_after s t j w (value_specs.step of_variables (statement_depth b) s t))

  -- ---- the values of a `return`

  returned_other : (es : Exs) (t : Terminal) (j : ℕ) (w : List Mark) → (t ≡ Semicolon → ⊥) → ((q : Pos) → t ≡ RightBrace q → ⊥) → Returned K b pos es (inside t j ∷ w) → ⊥
  returned_other es t j w not_semi not_brace h = stop_other K (with_statement b (return_stmt pos es)) t j w not_semi not_brace h

  returned_is_apart : (es : Exs) → following.Apart (value_context b) (MoreValues true (statement_depth b) (Returned K b pos) es)
  returned_is_apart es = values_apart true (statement_depth b) (Returned K b pos) es (λ xs t j w on. returned_other xs t j w (λ is. subst (following.GoesOn (value_context b)) is on) (λ q is. subst (following.GoesOn (value_context b)) is on))

  behind_returned_step : (es : Exs) (e : Ex) (t : Terminal) (j : ℕ) (w : List Mark) → Iff (MoreValues true (statement_depth b) (Returned K b pos) es e (inside t j ∷ w)) (After K (behind_returned b pos (with_ex es e) t) (nesting_at_stop b t) j w)
  behind_returned_step es e Comma j w = values_comma true (statement_depth b) (Returned K b pos) es e j w (returned_other (with_ex es e) Comma j w (λ is. cc) (λ q is. cc))
  behind_returned_step es e t j w = iff_trans _ _ _ (values_other true (statement_depth b) (Returned K b pos) es e t j w (λ is. cc)) (stop_step K (with_statement b (return_stmt pos (with_ex es e))) t j w)

  returned_after : (es : Exs) (o : Open) (t : Terminal) (j : ℕ) (w : List Mark) (q : expression.Progress) → following.ValidNext (value_context b) q
      → Iff (following.After (value_context b) (MoreValues true (statement_depth b) (Returned K b pos) es) q (expression.nesting (value_context b) o t) t j w) (After K (after_returned b pos es t q) (nesting_after b (nesting_at_stop b t) (value_context b) o t q) j w)
  returned_after es o t j w expression.fails valid = iff_same _
  returned_after es o t j w (expression.goes p) valid = iff_same _
  returned_after es o t j w (expression.ends e) valid = let i = behind_returned_step es e t j w in (λ h. i.0 h.1, λ h. (valid, i.1 h))

  pub returned_step : (es : Exs) (o : Open) (t : Terminal) (j : ℕ) (w : List Mark) → following.ValidOpen (value_context b) o → Iff (Rest K (in_return b pos es o) (inside t j ∷ w)) (After K (step (in_return b pos es o) t) (nesting_after b (nesting_at_stop b t) (value_context b) o t (expression.step (value_context b) o t)) j w)
  returned_step es o t j w valid =
      iff_trans _ _ _
      (open_quotient (value_context b) (MoreValues true (statement_depth b) (Returned K b pos) es) o t j w valid (returned_is_apart es))
      (returned_after es o t j w (expression.step (value_context b) o t) (open_valid (value_context b) o t valid))

  -- ---- after `return`

  value_starts : (t : Terminal) (j : ℕ) (w : List Mark) → Iff (Values true (statement_depth b) (Returned K b pos) (inside t j ∷ w)) (After K (after_returned b pos none t (operand [] t)) (statement_depth b) j w)
  value_starts t j w =
      iff_trans _ _ _ (values_begin true (statement_depth b) (Returned K b pos) (inside t j ∷ w))
      (iff_trans _ _ _
      (open_quotient (value_context b) (MoreValues true (statement_depth b) (Returned K b pos) none) (at_operand []) t j w (value_valid true (statement_depth b)) (returned_is_apart none))
      (starts (operand [] t) (operand_starts t)))
    where
      starts : (q : expression.Progress) → NeverEnds q → Iff (following.After (value_context b) (MoreValues true (statement_depth b) (Returned K b pos) none) q (statement_depth b) t j w) (After K (after_returned b pos none t q) (statement_depth b) j w)
      starts expression.fails never = iff_same _
      starts (expression.goes p) never = iff_same _
      starts (expression.ends e) never = absurd never

  pub return_step : (t : Terminal) (j : ℕ) (w : List Mark) → Iff (Rest K (at_return b pos) (inside t j ∷ w)) (After K (step (at_return b pos) t) (nesting_at_stop b t) j w)
  return_step Semicolon j w = only_left _ _ _ (value_starts Semicolon j w).0 (stop_step K (with_statement b (return_stmt pos none)) Semicolon j w)
  return_step (RightBrace q) j w = only_left _ _ _ (value_starts (RightBrace q) j w).0 (stop_step K (with_statement b (return_stmt pos none)) (RightBrace q) j w)
  return_step t j w = only_right _ _ _ (returned_other none t j w (λ is. cc) (λ q is. cc)) (value_starts t j w)
