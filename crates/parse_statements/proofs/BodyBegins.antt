-- A statement at the first terminal of one of its parts.
use Rattle.std.proofs.Common.{◌≡◌, ℕ, ◌≤◌, ◌<◌, List, [], Option, Result, Ok, Err, refl, sym, subst}
use Rattle.base.specs.declared.pos.Pos.{Pos}
use Rattle.syntax.specs.declared.limit.TheConstants.{NESTING_LIMIT}
use Rattle.syntax.specs.Expressions.{Ex, none}
use Rattle.syntax.specs.Statements.{Simple}
use Rattle.parse_expressions.specs.declared.fault.StepFault.{StepFault}
use Rattle.parse_expressions.specs.declared.fault.StepFault.TheVariants as fault
use Rattle.parse_expressions.specs.declared.terminal.Terminal.{Terminal}
use Rattle.parse_expressions.specs.declared.terminal.Terminal.TheVariants.{Range, Semicolon, LeftBrace, RightBrace}
use Rattle.parse_expressions.specs.Machine.{Context, Open, at_operand}
use Rattle.parse_expressions.specs.Machine as expression
use Rattle.parse_statements.specs.declared.state.BodyProgress.{BodyProgress}
use Rattle.parse_statements.specs.declared.state.BodyProgress.TheVariants as progress
use Rattle.parse_statements.specs.Outer.{Branch, Blocks, statement_depth, chain_depth}
use Rattle.parse_simple_statements.specs.Simples.{Simples, beginning}
use Rattle.parse_simple_statements.specs.Simples as simples
use Rattle.parse_statements.specs.Bodies.{Spot, in_body, in_if, in_for, in_post, State, in_simple, at_return, in_return, at_if, at_for, at_second, in_second, at_post, Progress, context_of, value_context, header_context, spot_depth, simple_begins, after_simple, step, nesting, nesting_after, nesting_simple}
use Rattle.parse_statements.specs.BodyStates.{GoesOn, Steps}
use Rattle.parse_simple_statements.proofs.Begins.{operand_not_ends}

-- the nesting matters only where the machine takes the terminal
pub body_nesting : (r : Result BodyProgress StepFault) (then : Progress) (m n : ℕ) → (GoesOn then → m ≡ n) → Steps r then m → Steps r then n
body_nesting (Ok (progress.Goes s)) then m n same h = (h.0, subst (λ (x : ℕ). x ≤ NESTING_LIMIT) (same (subst GoesOn (sym h.0) tt)) h.1)
body_nesting (Ok (progress.Ends s)) then m n same h = (h.0, subst (λ (x : ℕ). x ≤ NESTING_LIMIT) (same (subst GoesOn (sym h.0) tt)) h.1)
body_nesting (Err fault.NoMemory) then m n same h = h
body_nesting (Err fault.Unexpected) then m n same h = h
body_nesting (Err fault.TooDeep) then m n same h = (subst (λ (x : ℕ). NESTING_LIMIT < x) (same h.1) h.0, h.1)

-- ---- a simple statement

context_depth : (b : Blocks) (s : Spot) → (context_of b s).depth ≡ spot_depth b s
context_depth b in_body = refl
context_depth b (in_if bs pos) = refl
context_depth b (in_for pos) = refl
context_depth b (in_post pos i c) = refl

first_nesting : (b : Blocks) (s : Spot) (t : Terminal) (then : expression.Progress) → expression.operand [] t ≡ then → ((e : Ex) → then ≡ expression.ends e → ⊥) → GoesOn (after_simple b s t (simples.after_left (context_of b s) none t then)) → nesting_simple b s beginning t (simples.after_left (context_of b s) none t then) ≡ spot_depth b s
first_nesting b s t expression.fails is not_ends goes_on = absurd goes_on
first_nesting b s t (expression.goes o) is not_ends goes_on = rw is (context_depth b s)
first_nesting b s t (expression.ends e) is not_ends goes_on = absurd (not_ends e refl)

simple_first : (b : Blocks) (s : Spot) (t : Terminal) (r : Result BodyProgress StepFault) → Steps r (step (in_simple b s beginning) t) (nesting (in_simple b s beginning) t) → Steps r (simple_begins b s t) (spot_depth b s)
simple_first b s t r h = body_nesting r _ _ (spot_depth b s) (first_nesting b s t (expression.operand [] t) refl (operand_not_ends [] t)) h

pub first_of_simple : (b : Blocks) (s : Spot) (q : Simples) (t : Terminal) (r : Result BodyProgress StepFault) → q ≡ beginning → Steps r (step (in_simple b s q) t) (nesting (in_simple b s q) t) → Steps r (simple_begins b s t) (spot_depth b s)
first_of_simple b s q t r is h = simple_first b s t r (subst (λ (x : Simples). Steps r (step (in_simple b s x) t) (nesting (in_simple b s x) t)) is h)

pub if_begins : (b : Blocks) (bs : List Branch) (pos : Pos) (t : Terminal) (r : Result BodyProgress StepFault) → (t ≡ Semicolon → ⊥) → Steps r (simple_begins b (in_if bs pos) t) (chain_depth bs (statement_depth b)) → Steps r (step (at_if b bs pos) t) (nesting (at_if b bs pos) t)
if_begins b bs pos Semicolon r other h = absurd (other refl)
if_begins b bs pos t r other h = h

pub for_begins : (b : Blocks) (pos : Pos) (t : Terminal) (r : Result BodyProgress StepFault) → ((q : Pos) → t ≡ LeftBrace q → ⊥) → (t ≡ Semicolon → ⊥) → ((q : Pos) → t ≡ Range q → ⊥) → Steps r (simple_begins b (in_for pos) t) (statement_depth b) → Steps r (step (at_for b pos) t) (nesting (at_for b pos) t)
for_begins b pos (LeftBrace q) r no_brace no_semicolon no_range h = absurd (no_brace q refl)
for_begins b pos Semicolon r no_brace no_semicolon no_range h = absurd (no_semicolon refl)
for_begins b pos (Range q) r no_brace no_semicolon no_range h = absurd (no_range q refl)
for_begins b pos t r no_brace no_semicolon no_range h = h

pub post_begins : (b : Blocks) (pos : Pos) (i : Option Simple) (c : Option Ex) (t : Terminal) (r : Result BodyProgress StepFault) → ((q : Pos) → t ≡ LeftBrace q → ⊥) → Steps r (simple_begins b (in_post pos i c) t) (statement_depth b) → Steps r (step (at_post b pos i c) t) (nesting (at_post b pos i c) t)
post_begins b pos i c (LeftBrace q) r no_brace h = absurd (no_brace q refl)
post_begins b pos i c t r no_brace h = h

-- ---- an expression

same_depth : (b : Blocks) (context : Context) (t : Terminal) (then : expression.Progress) → nesting_after b context.depth context (at_operand []) t then ≡ context.depth
same_depth b context t expression.fails = refl
same_depth b context t (expression.goes o) = refl
same_depth b context t (expression.ends e) = refl

value_first : (b : Blocks) (pos : Pos) (t : Terminal) (r : Result BodyProgress StepFault) → (t ≡ Semicolon → ⊥) → ((q : Pos) → t ≡ RightBrace q → ⊥) → Steps r (step (in_return b pos none (at_operand [])) t) (nesting (in_return b pos none (at_operand [])) t) → Steps r (step (at_return b pos) t) (nesting (at_return b pos) t)
value_first b pos Semicolon r no_semicolon no_brace h = absurd (no_semicolon refl)
value_first b pos (RightBrace q) r no_semicolon no_brace h = absurd (no_brace q refl)
value_first b pos t r no_semicolon no_brace h = body_nesting r _ _ (statement_depth b) (λ on. same_depth b (value_context b) t (expression.operand [] t)) h

pub return_begins : (b : Blocks) (pos : Pos) (s : State) (t : Terminal) (r : Result BodyProgress StepFault) → s ≡ in_return b pos none (at_operand []) → (t ≡ Semicolon → ⊥) → ((q : Pos) → t ≡ RightBrace q → ⊥) → Steps r (step s t) (nesting s t) → Steps r (step (at_return b pos) t) (nesting (at_return b pos) t)
return_begins b pos s t r is no_semicolon no_brace h = value_first b pos t r no_semicolon no_brace (subst (λ (x : State). Steps r (step x t) (nesting x t)) is h)

condition_first : (b : Blocks) (pos : Pos) (i : Option Simple) (t : Terminal) (r : Result BodyProgress StepFault) → (t ≡ Semicolon → ⊥) → Steps r (step (in_second b pos i (at_operand [])) t) (nesting (in_second b pos i (at_operand [])) t) → Steps r (step (at_second b pos i) t) (nesting (at_second b pos i) t)
condition_first b pos i Semicolon r no_semicolon h = absurd (no_semicolon refl)
condition_first b pos i t r no_semicolon h = body_nesting r _ _ (statement_depth b) (λ on. same_depth b (header_context (statement_depth b)) t (expression.operand [] t)) h

pub second_begins : (b x : Blocks) (pos y : Pos) (i : Option Simple) (o : Open) (t : Terminal) (r : Result BodyProgress StepFault) → x ≡ b → y ≡ pos → o ≡ at_operand [] → (t ≡ Semicolon → ⊥) → Steps r (step (in_second x y i o) t) (nesting (in_second x y i o) t) → Steps r (step (at_second b pos i) t) (nesting (at_second b pos i) t)
second_begins b x pos y i o t r same_blocks same_pos begins no_semicolon h = condition_first b pos i t r no_semicolon (rw (same_blocks, same_pos, begins) at h)
