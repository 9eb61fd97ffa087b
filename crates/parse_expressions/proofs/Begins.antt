-- Terminals that begin an operand, where another terminal may stand as well.
use Rattle.std.proofs.Common.{◌≡◌, ℕ, suc, List, ◌∷◌, Option, Some, None, false, refl, sym}
use Rattle.std.specs.Prelude.{Result, Ok, Err}
use Rattle.base.specs.declared.pos.Pos.{Pos}
use Rattle.syntax.specs.declared.expression.Name.{Name}
use Rattle.syntax.specs.Expressions.{Ex, Elements}
use Rattle.parse_expressions.specs.declared.fault.StepFault.{StepFault}
use Rattle.parse_expressions.specs.declared.fault.StepFault.TheVariants as fault
use Rattle.parse_expressions.specs.declared.frame.Braces.{Braces}
use Rattle.parse_expressions.specs.declared.frame.Frame.{Frame as CodeFrame}
use Rattle.parse_expressions.specs.declared.frame.Frame.TheVariants as frame
use Rattle.parse_expressions.specs.declared.«open».Progress.{Progress as CodeProgress}
use Rattle.parse_expressions.specs.declared.«open».Progress.TheVariants as progress
use Rattle.parse_expressions.specs.declared.terminal.Terminal.{Terminal}
use Rattle.parse_expressions.specs.declared.terminal.Terminal.TheVariants.{Colon, LeftBrace, RightParen, RightBrace}
use Rattle.parse_expressions.specs.Frames.{Container, of_type, of_element, Frame, indexing, filling, open_depth}
use Rattle.parse_expressions.specs.Containers.{in_braces, is_typed}
use Rattle.parse_expressions.specs.Stacks.{frame_of}
use Rattle.parse_expressions.specs.Machine.{Context, at_index, at_element, at_value, at_operator, fails, operand, filled, step, nesting}
use Rattle.parse_expressions.specs.States.{element_operand, Steps}

-- where nothing may follow, the nesting does not matter
pub still_fails : (r : Result CodeProgress StepFault) (b : Context) (d e : ℕ) → Steps r b fails d → Steps r b fails e
still_fails (Ok (progress.Goes o)) b d e h = absurd cc
still_fails (Ok (progress.Ends part)) b d e h = h
still_fails (Err fault.NoMemory) b d e h = h
still_fails (Err fault.Unexpected) b d e h = h
still_fails (Err fault.TooDeep) b d e h = absurd h.1

pub index_begins : (r : Result CodeProgress StepFault) (b : Context) (fs : List Frame) (a : Ex) (pos : Pos) (t : Terminal) (d : ℕ) → (t ≡ Colon → ⊥) → Steps r b (operand (indexing a pos ∷ fs) t) d → Steps r b (step b (at_index fs a pos) t) d
index_begins r b fs a pos Colon d other h = absurd (other refl)
index_begins r b fs a pos t d other h = h

pub value_begins : (r : Result CodeProgress StepFault) (b : Context) (fs : List Frame) (c : Container) (es : Elements) (x : Name) (t : Terminal) (d : ℕ) → Steps r b (element_operand (filling c es (Some x) ∷ fs) t) d → Steps r b (step b (at_value fs c es x) t) d
value_begins r b fs c es x (LeftBrace pos) d h = h
value_begins r b fs c es x t d h = h

pub no_brace : (r : Result CodeProgress StepFault) (b : Context) (fs : List Frame) (t : Terminal) (d : ℕ) → ((x : Pos) → t ≡ LeftBrace x → ⊥) → Steps r b (operand fs t) d → Steps r b (element_operand fs t) d
no_brace r b fs (LeftBrace pos) d other h = absurd (other pos refl)
no_brace r b fs t d other h = h

pub element_begins : (r : Result CodeProgress StepFault) (b : Context) (fs : List Frame) (c : Container) (es : Elements) (t : Terminal) → ((x : Pos) → t ≡ RightBrace x → ⊥) → Steps r b (element_operand (filling c es None ∷ fs) t) (suc (open_depth b.depth fs)) → Steps r b (step b (at_element fs c es) t) (nesting b (at_element fs c es) t)
element_begins r b fs c es (RightBrace pos) other h = absurd (other pos refl)
element_begins r b fs c es (LeftBrace pos) other h = h
element_begins r b fs c es RightParen other h = still_fails r b _ _ h
element_begins r b fs c es t other h = h

-- after the closing brace of an element without a type that stands in no braces
pub not_filling : (f : CodeFrame) (fs : List Frame) (c : Container) (es : Elements) → is_typed c ≡ false → ((x : Braces) (y : Option Name) → f ≡ frame.Element x y → ⊥) → filled (frame_of f ∷ fs) c es ≡ at_operator (frame_of f ∷ fs) (in_braces c es)
not_filling f fs (of_type t) es is other = absurd cc
not_filling (frame.Element x y) fs (of_element pos) es is other = absurd (other x y refl)
not_filling f fs (of_element pos) es is other = refl

pub filled_plain : (f : CodeFrame) (all rest kept : List Frame) (c : Container) (es : Elements) (e : Ex) → is_typed c ≡ false → ((x : Braces) (y : Option Name) → f ≡ frame.Element x y → ⊥) → all ≡ frame_of f ∷ rest → kept ≡ frame_of f ∷ rest → e ≡ in_braces c es → at_operator kept e ≡ filled all c es
filled_plain f all rest kept c es e is other is_all is_kept is_e = rw is_all (rw is_kept (rw is_e (sym (not_filling f rest c es is other))))
