-- A simple statement at the first terminal of its values, and where it fails after a list.
use Rattle.std.proofs.Common.{◌≡◌, ℕ, ◌≤◌, ◌<◌, false, List, [], ◌∷◌, Result, Ok, Err, length, refl, sym, subst}
use Rattle.std.specs.Prelude.{◌==◌}
use Rattle.base.specs.declared.pos.Pos.{Pos}
use Rattle.syntax.specs.declared.limit.TheConstants.{NESTING_LIMIT}
use Rattle.syntax.specs.declared.expression.Expr.{Expr}
use Rattle.syntax.specs.Expressions.{Ex, Exs, none, exs_of}
use Rattle.parse_expressions.specs.declared.fault.StepFault.{StepFault}
use Rattle.parse_expressions.specs.declared.fault.StepFault.TheVariants as fault
use Rattle.parse_expressions.specs.declared.terminal.Terminal.{Terminal}
use Rattle.parse_expressions.specs.declared.terminal.Terminal.TheVariants.{Range}
use Rattle.parse_expressions.specs.Machine.{Context as ExpressionContext, Open, at_operand}
use Rattle.parse_expressions.specs.Machine as expression
use Rattle.parse_simple_statements.specs.declared.simples.SimpleProgress.{SimpleProgress}
use Rattle.parse_simple_statements.specs.declared.simples.SimpleProgress.TheVariants as progress
use Rattle.parse_simple_statements.specs.Simples.{Context, expression_context, Listed, at_value, in_value, Progress, fails, behind_list, after_value, step, nesting, nesting_after}
use Rattle.parse_simple_statements.specs.SimpleStates.{GoesOn, Steps}
use Rattle.parse_simple_statements.proofs.Begins.{operand_not_ends}

pub list_fails : (es : List Expr) (e : Ex) (t : Terminal) → (length es == 0) ≡ false → behind_list (exs_of es) e t ≡ fails
list_fails [] e t h = cc
list_fails (x ∷ es) e t h = refl

-- the nesting matters only where the machine takes the terminal
pub simple_nesting : (r : Result SimpleProgress StepFault) (p : Context) (then : Progress) (m n : ℕ) → (GoesOn then → m ≡ n) → Steps r p then m → Steps r p then n
simple_nesting (Ok (progress.Goes s)) p then m n same h = (h.0, h.1, subst (λ (x : ℕ). x ≤ NESTING_LIMIT) (same (subst GoesOn (sym h.0) tt)) h.2)
simple_nesting (Ok (progress.Ends s)) p then m n same h = h
simple_nesting (Ok (progress.Ranges vars at)) p then m n same h = (h.0, subst (λ (x : ℕ). x ≤ NESTING_LIMIT) (same (subst GoesOn (sym h.0) tt)) h.1)
simple_nesting (Err fault.NoMemory) p then m n same h = h
simple_nesting (Err fault.Unexpected) p then m n same h = h
simple_nesting (Err fault.TooDeep) p then m n same h = (subst (λ (x : ℕ). NESTING_LIMIT < x) (same h.1) h.0, h.1)

same_nesting : (l : Listed) (t : Terminal) (b : ExpressionContext) (o : Open) (then : expression.Progress) → ((e : Ex) → then ≡ expression.ends e → ⊥) → GoesOn (after_value l none t then) → nesting_after b o t then ≡ expression.nesting b o t
same_nesting l t b o expression.fails not_ends goes_on = absurd goes_on
same_nesting l t b o (expression.goes p) not_ends goes_on = refl
same_nesting l t b o (expression.ends e) not_ends goes_on = absurd (not_ends e refl)

value_first : (p : Context) (l : Listed) (t : Terminal) (r : Result SimpleProgress StepFault) → Steps r p (step p (in_value l none (at_operand [])) t) (nesting p (in_value l none (at_operand [])) t) → Steps r p (after_value l none t (expression.operand [] t)) p.depth
value_first p l t r h = simple_nesting r p _ _ p.depth (same_nesting l t (expression_context p) (at_operand []) (expression.operand [] t) (operand_not_ends [] t)) h

behind_operator : (p : Context) (l : Listed) (t : Terminal) (r : Result SimpleProgress StepFault) → ((pos : Pos) → t ≡ Range pos → ⊥) → Steps r p (after_value l none t (expression.operand [] t)) p.depth → Steps r p (step p (at_value l) t) p.depth
behind_operator p l (Range pos) r no_range h = absurd (no_range pos refl)
behind_operator p l t r no_range h = h

-- the code begins a value with nothing before it
pub value_begins : (p q : Context) (l : Listed) (es : Exs) (o : Open) (t : Terminal) (r : Result SimpleProgress StepFault) → q ≡ p → es ≡ none → o ≡ at_operand [] → ((pos : Pos) → t ≡ Range pos → ⊥) → Steps r q (step q (in_value l es o) t) (nesting q (in_value l es o) t) → Steps r p (step p (at_value l) t) p.depth
value_begins p q l es o t r at_place empty begins no_range h = behind_operator p l t r no_range (value_first p l t r (rw (at_place, empty, begins) at h))
