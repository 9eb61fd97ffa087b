-- The states of the code that reads a simple statement, as those of the machine, and what a step answers.
use Rattle.std.specs.Prelude.{◌≡◌, ℕ, ◌<◌, ◌≤◌, Result, Ok, Err}
use Rattle.syntax.specs.declared.limit.TheConstants.{NESTING_LIMIT}
use Rattle.syntax.specs.Expressions.{exs_of}
use Rattle.syntax.specs.Statements.{simple_of, targets_of}
use Rattle.parse_expressions.specs.declared.fault.StepFault.{StepFault}
use Rattle.parse_expressions.specs.declared.fault.StepFault.TheVariants as fault
use Rattle.parse_expressions.specs.States.{open_of}
use Rattle.parse_simple_statements.specs.declared.simples.Simples.{Simples as CodeSimples}
use Rattle.parse_simple_statements.specs.declared.simples.Simples.TheVariants as state
use Rattle.parse_simple_statements.specs.declared.simples.SimpleProgress.{SimpleProgress}
use Rattle.parse_simple_statements.specs.declared.simples.SimpleProgress.TheVariants as progress
use Rattle.parse_simple_statements.specs.Simples.{Context, Simples, in_left, at_value, in_value, at_end, Progress, fails, goes, ends, ranges}
use Rattle.parse_simple_statements.specs.Contexts.{context_of, listed_of}

abbrev pub simples_of : CodeSimples → Simples
simples_of (state.Left es e) = in_left (exs_of es.items) (open_of e.reading)
simples_of (state.Value p l) = at_value (listed_of l)
simples_of (state.InValue l es e) = in_value (listed_of l) (exs_of es.items) (open_of e.reading)
simples_of (state.End p s) = at_end (simple_of s)

-- where the statement stands
abbrev pub context_at : CodeSimples → Context
context_at (state.Left es e) = context_of e.context
context_at (state.Value p l) = context_of p
context_at (state.InValue l es e) = context_of e.context
context_at (state.End p s) = context_of p

-- the machine takes the terminal
abbrev pub GoesOn : Progress → Type 0
GoesOn (goes s) = Unit {0}
GoesOn (ranges vars range_pos) = Unit {0}
GoesOn _ = ⊥

-- What the code answers is what the machine does, unless memory ran out or the terminal's nesting n passes the limit.
abbrev pub FailsStep : StepFault → Progress → ℕ → Type 0
FailsStep fault.NoMemory then n = Unit {0}
FailsStep fault.Unexpected then n = then ≡ fails
FailsStep fault.TooDeep then n = (NESTING_LIMIT < n) × GoesOn then

abbrev pub Steps : Result SimpleProgress StepFault → Context → Progress → ℕ → Type 0
Steps (Ok (progress.Goes s)) p then n = (then ≡ goes (simples_of s)) × (context_at s ≡ p) × (n ≤ NESTING_LIMIT)
Steps (Ok (progress.Ends s)) p then n = then ≡ ends (simple_of s)
Steps (Ok (progress.Ranges vars range_pos)) p then n = (then ≡ ranges (targets_of vars) range_pos) × (n ≤ NESTING_LIMIT)
Steps (Err e) p then n = FailsStep e then n
