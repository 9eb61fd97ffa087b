-- The states of the code, as those of the machine, and what a step of the code answers.
use Rattle.std.specs.Prelude.{◌≡◌, ℕ, ◌<◌, ◌≤◌, List, Result, Ok, Err}
use Rattle.syntax.specs.declared.limit.TheConstants.{NESTING_LIMIT}
use Rattle.syntax.specs.Expressions.{no_elements, ex_of, exs_of, bound_of, elements_of}
use Rattle.parse_expressions.specs.declared.fault.StepFault.{StepFault}
use Rattle.parse_expressions.specs.declared.fault.StepFault.TheVariants as fault
use Rattle.parse_expressions.specs.declared.reading.Context.{Context as CodeContext}
use Rattle.parse_expressions.specs.declared.reading.Reading.{Reading}
use Rattle.parse_expressions.specs.declared.«open».Open.{Open as CodeOpen}
use Rattle.parse_expressions.specs.declared.«open».Open.TheVariants as state
use Rattle.parse_expressions.specs.declared.«open».Progress.{Progress as CodeProgress}
use Rattle.parse_expressions.specs.declared.«open».Progress.TheVariants as progress
use Rattle.parse_expressions.specs.declared.terminal.Terminal.{Terminal}
use Rattle.parse_expressions.specs.declared.terminal.Terminal.TheVariants.{LeftBrace}
use Rattle.parse_expressions.specs.Frames.{of_element, Frame, open_depth}
use Rattle.parse_expressions.specs.Containers.{container_of}
use Rattle.parse_expressions.specs.Stacks.{frames_of}
use Rattle.parse_expressions.specs.Machine.{Context, Open, at_operand, at_argument, at_spread, at_call_end, at_bracket, at_type_operand, at_type_end, at_type, at_operator, at_selector, at_index, at_high, at_element, at_value, at_element_end, Progress, fails, goes, ends, operand}

abbrev pub context_of : CodeContext → Context
context_of p = record { depth = p.depth; literals = p.literals; types = p.types }

-- what is open, and how deeply the next token is nested in it
abbrev pub frames_in : Reading → List Frame
frames_in r = frames_of r.frames.items

abbrev pub depth_in : Reading → ℕ
depth_in r = open_depth r.context.depth (frames_in r)

abbrev pub open_of : CodeOpen → Open
open_of (state.Operand r) = at_operand (frames_in r)
open_of (state.Argument o call) = at_argument (frames_in o.outside) (ex_of call.function) (exs_of call.arguments.items)
open_of (state.Spread r call) = at_spread (frames_in r) (ex_of call.function) (exs_of call.arguments.items)
open_of (state.CallEnd r call) = at_call_end (frames_in r) (ex_of call.function) (exs_of call.arguments.items)
open_of (state.Bracket o pos) = at_bracket (frames_in o.outside) pos
open_of (state.TypeOperand r) = at_type_operand (frames_in r)
open_of (state.TypeEnd r pos part) = at_type_end (frames_in r) pos (ex_of part.expr)
open_of (state.Type r part) = at_type (frames_in r) (ex_of part.expr)
open_of (state.Operator r part) = at_operator (frames_in r) (ex_of part.expr)
open_of (state.Selector r part pos) = at_selector (frames_in r) (ex_of part.expr) pos
open_of (state.Index o part pos) = at_index (frames_in o.outside) (ex_of part.expr) pos
open_of (state.High o part pos low) = at_high (frames_in o.outside) (ex_of part.expr) pos (bound_of low.bound)
open_of (state.Element o braces) = at_element (frames_in o.outside) (container_of braces.container) (elements_of braces.elements.items)
open_of (state.Value o braces key) = at_value (frames_in o.outside) (container_of braces.container) (elements_of braces.elements.items) key
open_of (state.ElementEnd r braces) = at_element_end (frames_in r) (container_of braces.container) (elements_of braces.elements.items)

abbrev pub stored_context : CodeOpen → CodeContext
stored_context (state.Operand r) = r.context
stored_context (state.Argument o call) = o.outside.context
stored_context (state.Spread r call) = r.context
stored_context (state.CallEnd r call) = r.context
stored_context (state.Bracket o pos) = o.outside.context
stored_context (state.TypeOperand r) = r.context
stored_context (state.TypeEnd r pos part) = r.context
stored_context (state.Type r part) = r.context
stored_context (state.Operator r part) = r.context
stored_context (state.Selector r part pos) = r.context
stored_context (state.Index o part pos) = o.outside.context
stored_context (state.High o part pos low) = o.outside.context
stored_context (state.Element o braces) = o.outside.context
stored_context (state.Value o braces key) = o.outside.context
stored_context (state.ElementEnd r braces) = r.context

-- where the expression or type stands that is read
abbrev pub context_in : CodeOpen → Context
context_in o = context_of (stored_context o)

-- a terminal where an element is wanted
abbrev pub element_operand : List Frame → Terminal → Progress
element_operand fs (LeftBrace pos) = goes (at_element fs (of_element pos) no_elements)
element_operand fs t = operand fs t

abbrev pub GoesOn : Progress → Type 0
GoesOn (goes s) = Unit {0}
GoesOn _ = ⊥

-- What the code answers is what the machine does, unless memory ran out or the terminal's nesting d passes the limit.
abbrev pub FailsStep : StepFault → Progress → ℕ → Type 0
FailsStep fault.NoMemory then d = Unit {0}
FailsStep fault.Unexpected then d = then ≡ fails
FailsStep fault.TooDeep then d = (NESTING_LIMIT < d) × GoesOn then

abbrev pub Steps : Result CodeProgress StepFault → Context → Progress → ℕ → Type 0
Steps (Ok (progress.Goes o)) b then d = (then ≡ goes (open_of o)) × (context_in o ≡ b) × (d ≤ NESTING_LIMIT)
Steps (Ok (progress.Ends part)) b then d = then ≡ ends (ex_of part.expr)
Steps (Err e) b then d = FailsStep e then d
