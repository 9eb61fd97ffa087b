-- Braces and colons after operands.
use Rattle.std.proofs.Common.{◌≡◌, ℕ, List, [], ◌∷◌, None, false, refl, subst}
use Rattle.std.specs.Prelude.{Result}
use Rattle.base.specs.declared.pos.Pos.{Pos}
use Rattle.syntax.specs.declared.expression.Name.{Name}
use Rattle.syntax.specs.Expressions.{Ex, name}
use Rattle.parse_expressions.specs.declared.fault.StepFault.{StepFault}
use Rattle.parse_expressions.specs.declared.frame.Frame.{Frame as CodeFrame}
use Rattle.parse_expressions.specs.declared.frame.Frame.TheVariants as frame
use Rattle.parse_expressions.specs.declared.«open».Progress.{Progress as CodeProgress}
use Rattle.parse_expressions.specs.declared.terminal.Terminal.{Terminal}
use Rattle.parse_expressions.specs.declared.terminal.Terminal.TheVariants.{Colon, LeftBrace}
use Rattle.parse_expressions.specs.Frames.{Frame, filling}
use Rattle.parse_expressions.specs.Stacks.{frame_of}
use Rattle.parse_expressions.specs.Machine.{Context, Progress, fails, reduce, closes, closes_reduced, behind_operand, behind_inner_type, behind_type, nesting_at_closes, nesting_behind}
use Rattle.parse_expressions.specs.States.{Steps}

-- a brace closes nothing
pub brace_fails : (f : CodeFrame) (fs : List Frame) (e : Ex) (pos : Pos) → closes (frame_of f ∷ fs) e (LeftBrace pos) ≡ fails
brace_fails (frame.Paren p) fs e pos = refl
brace_fails f fs e pos = refl

pub no_name_colon : (r : Result CodeProgress StepFault) (b : Context) (fs : List Frame) (e : Ex) → ((x : Name) → e ≡ name x → ⊥) → Steps r b (closes_reduced fs e Colon) (nesting_at_closes b.depth (reduce 0 fs e).0 Colon) → Steps r b (behind_operand b fs e Colon) (nesting_behind b.depth fs e Colon)
no_name_colon r b (filling c es None ∷ fs) (name x) other h = absurd (other x refl)
no_name_colon r b fs e other h = h

-- a type inside an expression
pub in_expression : (r : Result CodeProgress StepFault) (b : Context) (fs : List Frame) (e : Ex) (t : Terminal) (d : ℕ) → b.types ≡ false → Steps r b (behind_inner_type fs e t) d → Steps r b (behind_type b fs e t) d
in_expression r b [] e t d is h = subst (λ (p : Progress). Steps r b p d) (rw is refl) h
in_expression r b (f ∷ fs) e t d is h = h
