-- A terminal in a simple statement of a body divides the texts by it from the left.
use Rattle.std.proofs.Common.{◌≡◌, ℕ, true, false, List, [], ◌∷◌, Option, subst}
use Rattle.base.specs.declared.pos.Pos.{Pos}
use Rattle.syntax.specs.Expressions.{Ex, none}
use Rattle.syntax.specs.Statements.{Simple, express, Targets, simple, Stms}
use Rattle.parse_expressions.specs.declared.terminal.Terminal.{Terminal}
use Rattle.parse_expressions.specs.declared.terminal.Terminal.TheVariants.{Semicolon, LeftBrace}
use Rattle.parse_expressions.specs.Grammar.{Mark, inside}
use Rattle.parse_expressions.specs.Machine as expression
use Rattle.parse_expressions.specs.Machine.{at_operand, operand}
use Rattle.parse_expressions.proofs.Following.{Iff}
use Rattle.parse_simple_statements.specs.Simples as simples
use Rattle.parse_simple_statements.specs.Simples.{Simples, beginning}
use Rattle.parse_statements.specs.Outer.{chain_depth, Blocks, statement_depth, with_statement}
use Rattle.parse_statements.specs.Bodies.{Spot, in_body, in_if, in_for, in_post, context_of, behind_simple, ranges_at, after_simple, simple_begins, nesting_behind, nesting_simple}
use Rattle.parse_simple_statements.proofs.Marks.{next_read, next_other, next_at_read, next_at_other, iff_same, iff_trans, and_then, only_left, only_right, neither}
use Rattle.parse_simple_statements.proofs.Starts.{NeverEnds, operand_starts}
use Rattle.parse_simple_statements.proofs.ValueLists.{value_begins}
use Rattle.parse_simple_statements.proofs.SimplesFollowing as following
use Rattle.parse_simple_statements.proofs.SimplesBegins.{begins_valid}
use Rattle.parse_simple_statements.proofs.SimplesQuotient.{quotient}
use Rattle.parse_statements.proofs.BodiesFollowing.{IsCondition, BehindSimple, BehindRange, After}
use Rattle.parse_statements.proofs.BodiesEnds.{stop_step, stop_other}

-- a simple statement that is a condition ends at a brace alone
condition_other : (t : Terminal) (j : ℕ) (w : List Mark) (Then : Ex → List Mark → Type 0) → ((e : Ex) → Then e (inside t j ∷ w) → ⊥) → (s : Simple) → IsCondition Then s (inside t j ∷ w) → ⊥
condition_other t j w Then never (express e) h = never e h
condition_other t j w Then never s h = h

module _ (K : Stms → Pos → List Mark → Type 0) (b : Blocks) where
  -- a place where a simple statement stands
  abbrev pub InSimple : Spot → Simples → List Mark → Type 0
  InSimple s p w = following.Rest (context_of b s) (BehindSimple K b s) (BehindRange K b s) p w

  -- ---- after a whole simple statement

  if_step : (bs : _) (pos : Pos) (x : Simple) (t : Terminal) (j : ℕ) (w : List Mark) → Iff (BehindSimple K b (in_if bs pos) x (inside t j ∷ w)) (After K (behind_simple b (in_if bs pos) x t) (chain_depth bs (statement_depth b)) j w)
  if_step bs pos x Semicolon j w =
      only_left _ _ _ (condition_other Semicolon j w _ (λ e h. next_at_other LeftBrace _ _ Semicolon j w (λ q is. cc) h) x)
      (iff_trans _ _ _ (next_read Semicolon _ _ j w) (and_then _ _ _ (value_begins false (chain_depth bs (statement_depth b)) _ w)))
  if_step bs pos (express e) (LeftBrace q) j w = only_right _ _ _ (next_other Semicolon _ _ (LeftBrace q) j w (λ is. cc)) (next_at_read LeftBrace (chain_depth bs (statement_depth b)) _ q j w (λ p is. cc))
  if_step bs pos (express e) t j w = (λ h. absurd (neither _ _ (next_other Semicolon _ _ t j w (λ is. cc)) (next_at_other LeftBrace _ _ t j w (λ q is. cc)) h), λ h. absurd h)
  if_step bs pos x t j w = (λ h. absurd (neither _ _ (next_other Semicolon _ _ t j w (λ is. cc)) (λ k. k) h), λ h. absurd h)

  for_step : (pos : Pos) (x : Simple) (t : Terminal) (j : ℕ) (w : List Mark) → Iff (BehindSimple K b (in_for pos) x (inside t j ∷ w)) (After K (behind_simple b (in_for pos) x t) (statement_depth b) j w)
  for_step pos x Semicolon j w =
      only_left _ _ _ (condition_other Semicolon j w _ (λ e h. next_at_other LeftBrace _ _ Semicolon j w (λ q is. cc) h) x)
      (next_read Semicolon _ _ j w)
  for_step pos (express e) (LeftBrace q) j w = only_right _ _ _ (next_other Semicolon _ _ (LeftBrace q) j w (λ is. cc)) (next_at_read LeftBrace (statement_depth b) _ q j w (λ p is. cc))
  for_step pos (express e) t j w = (λ h. absurd (neither _ _ (next_other Semicolon _ _ t j w (λ is. cc)) (next_at_other LeftBrace _ _ t j w (λ q is. cc)) h), λ h. absurd h)
  for_step pos x t j w = (λ h. absurd (neither _ _ (next_other Semicolon _ _ t j w (λ is. cc)) (λ k. k) h), λ h. absurd h)

  post_step : (pos : Pos) (i : Option Simple) (c : Option Ex) (x : Simple) (t : Terminal) (j : ℕ) (w : List Mark) → Iff (BehindSimple K b (in_post pos i c) x (inside t j ∷ w)) (After K (behind_simple b (in_post pos i c) x t) (statement_depth b) j w)
  post_step pos i c x (LeftBrace q) j w = next_at_read LeftBrace (statement_depth b) _ q j w (λ p is. cc)
  post_step pos i c x t j w = (λ h. absurd (next_at_other LeftBrace _ _ t j w (λ q is. cc) h), λ h. absurd h)

  behind_simple_step : (s : Spot) (x : Simple) (t : Terminal) (j : ℕ) (w : List Mark) → Iff (BehindSimple K b s x (inside t j ∷ w)) (After K (behind_simple b s x t) (nesting_behind b s t) j w)
  behind_simple_step in_body x t j w = stop_step K (with_statement b (simple x)) t j w
  behind_simple_step (in_if bs pos) x t j w = if_step bs pos x t j w
  behind_simple_step (in_for pos) x t j w = for_step pos x t j w
  behind_simple_step (in_post pos i c) x t j w = post_step pos i c x t j w

  range_step : (s : Spot) (vars : Targets) (at : Pos) (n j : ℕ) (w : List Mark) → Iff ((j ≡ n) × BehindRange K b s vars at w) (After K (ranges_at b s vars at) n j w)
  range_step in_body vars at n j w = (λ h. absurd h.1, λ h. absurd h)
  range_step (in_if bs pos) vars at n j w = (λ h. absurd h.1, λ h. absurd h)
  range_step (in_for pos) vars at n j w = and_then _ _ _ (value_begins false (statement_depth b) _ w)
  range_step (in_post pos i c) vars at n j w = (λ h. absurd h.1, λ h. absurd h)

  -- ---- in a simple statement

  simple_is_apart : (s : Spot) → following.Apart (context_of b s) (BehindSimple K b s)
  simple_is_apart in_body = record { never = λ x t j w on h. stop_other K (with_statement b (simple x)) t j w (λ is. subst (following.GoesOn (context_of b in_body)) is on) (λ q is. subst (following.GoesOn (context_of b in_body)) is on) h }
  simple_is_apart (in_if bs pos) = record { never = λ x t j w on h. neither _ _ (next_other Semicolon _ _ t j w (λ is. subst (following.GoesOn (context_of b (in_if bs pos))) is on)) (condition_other t j w _ (λ e k. next_at_other LeftBrace _ _ t j w (λ q is. let l : false ≡ true = subst (following.GoesOn (context_of b (in_if bs pos))) is on in absurd cc) k) x) h }
  simple_is_apart (in_for pos) = record { never = λ x t j w on h. neither _ _ (next_other Semicolon _ _ t j w (λ is. subst (following.GoesOn (context_of b (in_for pos))) is on)) (condition_other t j w _ (λ e k. next_at_other LeftBrace _ _ t j w (λ q is. let l : false ≡ true = subst (following.GoesOn (context_of b (in_for pos))) is on in absurd cc) k) x) h }
  simple_is_apart (in_post pos i c) = record { never = λ x t j w on h. next_at_other LeftBrace _ _ t j w (λ q is. let l : false ≡ true = subst (following.GoesOn (context_of b (in_post pos i c))) is on in absurd cc) h }

  simple_after : (s : Spot) (p : Simples) (t : Terminal) (j : ℕ) (w : List Mark) (q : simples.Progress) → Iff (following.After (context_of b s) (BehindSimple K b s) (BehindRange K b s) q (simples.nesting (context_of b s) p t) t j w) (After K (after_simple b s t q) (nesting_simple b s p t q) j w)
  simple_after s p t j w simples.fails = iff_same _
  simple_after s p t j w (simples.goes r) = iff_same _
  simple_after s p t j w (simples.ends x) = behind_simple_step s x t j w
  simple_after s p t j w (simples.ranges vars at) = range_step s vars at (simples.nesting (context_of b s) p t) j w

  pub simple_step : (s : Spot) (p : Simples) (t : Terminal) (j : ℕ) (w : List Mark) → following.Valid (context_of b s) p → Iff (InSimple s p (inside t j ∷ w)) (After K (after_simple b s t (simples.step (context_of b s) p t)) (nesting_simple b s p t (simples.step (context_of b s) p t)) j w)
  simple_step s p t j w valid = iff_trans _ _ _ (quotient (context_of b s) (BehindSimple K b s) (BehindRange K b s) p t j w valid (simple_is_apart s)) (simple_after s p t j w (simples.step (context_of b s) p t))

  -- ---- its first terminal

  begins_quotient : (s : Spot) (t : Terminal) (j : ℕ) (w : List Mark) → Iff (InSimple s beginning (inside t j ∷ w)) (following.After (context_of b s) (BehindSimple K b s) (BehindRange K b s) (simples.after_left (context_of b s) none t (operand [] t)) (simples.nesting (context_of b s) beginning t) t j w)
  begins_quotient s t j w = quotient (context_of b s) (BehindSimple K b s) (BehindRange K b s) beginning t j w (begins_valid (context_of b s)) (simple_is_apart s)

  pub begins_step : (s : Spot) (t : Terminal) (j : ℕ) (w : List Mark) → Iff (InSimple s beginning (inside t j ∷ w)) (After K (simple_begins b s t) (simples.expression_context (context_of b s)).depth j w)
  begins_step s t j w = iff_trans _ _ _ (begins_quotient s t j w) (starts (operand [] t) (operand_starts t))
    where
      starts : (q : expression.Progress) → NeverEnds q → Iff (following.After (context_of b s) (BehindSimple K b s) (BehindRange K b s) (simples.after_left (context_of b s) none t q) (simples.nesting_after (simples.expression_context (context_of b s)) (at_operand []) t q) t j w) (After K (after_simple b s t (simples.after_left (context_of b s) none t q)) (simples.expression_context (context_of b s)).depth j w)
      starts expression.fails never = iff_same _
      starts (expression.goes o) never = iff_same _
      starts (expression.ends e) never = absurd never

  -- no simple statement begins with it
  pub begins_other : (s : Spot) (t : Terminal) (j : ℕ) (w : List Mark) → operand [] t ≡ expression.fails → InSimple s beginning (inside t j ∷ w) → ⊥
  begins_other s t j w is h = subst (λ (q : expression.Progress). following.After (context_of b s) (BehindSimple K b s) (BehindRange K b s) (simples.after_left (context_of b s) none t q) (simples.nesting (context_of b s) beginning t) t j w) is ((begins_quotient s t j w).0 h)
