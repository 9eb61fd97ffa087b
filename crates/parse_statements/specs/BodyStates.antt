-- The states of the code that reads the body of a function, as those of the machine, and what a step answers.
use Rattle.std.specs.Prelude.{◌≡◌, ℕ, ◌<◌, ◌≤◌, Result, Ok, Err}
use Rattle.syntax.specs.declared.limit.TheConstants.{NESTING_LIMIT}
use Rattle.syntax.specs.Expressions.{exs_of, ex_in}
use Rattle.syntax.specs.Statements.{simple_in, targets_of, stms_of}
use Rattle.parse_expressions.specs.declared.fault.StepFault.{StepFault}
use Rattle.parse_expressions.specs.declared.fault.StepFault.TheVariants as fault
use Rattle.parse_expressions.specs.States.{open_of}
use Rattle.parse_statements.specs.declared.state.BodyState.{BodyState}
use Rattle.parse_statements.specs.declared.state.BodyState.TheVariants as state
use Rattle.parse_statements.specs.declared.state.BodyProgress.{BodyProgress}
use Rattle.parse_statements.specs.declared.state.BodyProgress.TheVariants as progress
use Rattle.parse_statements.specs.Outers.{branch_of, branches_of}
use Rattle.parse_statements.specs.BlocksInMemory.{blocks_of, blocks_at, spot_at}
use Rattle.parse_simple_statements.specs.SpecStates.{specs_of}
use Rattle.parse_simple_statements.specs.SimpleStates.{simples_of}
use Rattle.parse_statements.specs.Bodies.{State, at_statement, in_var, in_simple, at_return, in_return, at_if, in_condition, at_for, at_second, in_second, at_post, in_range, at_then, at_else, at_stop, Progress, fails, goes, ends}

abbrev pub state_of : BodyState → State
state_of (state.Statement b) = at_statement (blocks_of b)
state_of (state.Var v) = in_var (blocks_of v.blocks) v.pos (specs_of v.specs)
state_of (state.Simple s) = in_simple (blocks_at s.spot) (spot_at s.spot) (simples_of s.simples)
state_of (state.Return b pos) = at_return (blocks_of b) pos
state_of (state.InReturn r) = in_return (blocks_of r.blocks) r.pos (exs_of r.values.items) (open_of r.reading)
state_of (state.If h) = at_if (blocks_of h.blocks) (branches_of h.branches.items) h.pos
state_of (state.Condition c) = in_condition (blocks_of c.header.blocks) (branches_of c.header.branches.items) c.header.pos (simple_in c.init) (open_of c.reading)
state_of (state.For b pos) = at_for (blocks_of b) pos
state_of (state.Second b pos i) = at_second (blocks_of b) pos (simple_in i)
state_of (state.InSecond f i) = in_second (blocks_of f.blocks) f.pos (simple_in i) (open_of f.reading)
state_of (state.Post b pos i c) = at_post (blocks_of b) pos (simple_in i) (ex_in c)
state_of (state.Range f vars range_pos) = in_range (blocks_of f.blocks) f.pos (targets_of vars) range_pos (open_of f.reading)
state_of (state.Then b bs last) = at_then (blocks_of b) (branches_of bs.items) (branch_of last)
state_of (state.Else b bs last) = at_else (blocks_of b) (branches_of bs.items) (branch_of last)
state_of (state.Stop b) = at_stop (blocks_of b)

-- the machine takes the terminal
abbrev pub GoesOn : Progress → Type 0
GoesOn fails = ⊥
GoesOn _ = Unit {0}

-- What the code answers is what the machine does, unless memory ran out or the terminal's nesting n passes the limit.
abbrev pub FailsStep : StepFault → Progress → ℕ → Type 0
FailsStep fault.NoMemory then n = Unit {0}
FailsStep fault.Unexpected then n = then ≡ fails
FailsStep fault.TooDeep then n = (NESTING_LIMIT < n) × GoesOn then

abbrev pub Steps : Result BodyProgress StepFault → Progress → ℕ → Type 0
Steps (Ok (progress.Goes s)) then n = (then ≡ goes (state_of s)) × (n ≤ NESTING_LIMIT)
Steps (Ok (progress.Ends body)) then n = (then ≡ ends (stms_of body.statements.items) body.end) × (n ≤ NESTING_LIMIT)
Steps (Err e) then n = FailsStep e then n
