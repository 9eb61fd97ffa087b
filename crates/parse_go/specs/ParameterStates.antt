-- The states of the code that reads parameters and results, as those of the machine, and what a step of the code answers.
use Rattle.std.specs.Prelude.{◌≡◌, ℕ, ◌<◌, ◌≤◌, Result, Ok, Err}
use Rattle.syntax.specs.declared.limit.TheConstants.{NESTING_LIMIT}
use Rattle.syntax.specs.Expressions.{exs_of}
use Rattle.syntax.specs.Declarations.{fields_of, parameters_of}
use Rattle.parse_expressions.specs.declared.fault.StepFault.{StepFault}
use Rattle.parse_expressions.specs.declared.fault.StepFault.TheVariants as fault
use Rattle.parse_expressions.specs.States.{open_of}
use Rattle.parse_go.specs.declared.parameters.Parameters.{Parameters}
use Rattle.parse_go.specs.declared.parameters.Parameters.TheVariants as state
use Rattle.parse_go.specs.declared.parameters.ParametersProgress.{ParametersProgress}
use Rattle.parse_go.specs.declared.parameters.ParametersProgress.TheVariants as progress
use Rattle.parse_go.specs.Parameters.{Params, at_name_or_type, at_names, at_next_type, in_type, at_field, at_next_name, at_field_names, in_field_type, Progress, fails, goes, ends}

abbrev pub params_of : Parameters → Params
params_of (state.NameOrType xs) = at_name_or_type xs.items
params_of (state.Names xs) = at_names xs.items
params_of (state.NextType ts) = at_next_type (exs_of ts.items)
params_of (state.Type t) = in_type (exs_of t.before.items) (open_of t.reading)
params_of (state.Named fs) = at_field (fields_of fs.items)
params_of (state.NextName fs xs) = at_next_name (fields_of fs.items) xs.items
params_of (state.NamedNames fs xs) = at_field_names (fields_of fs.items) xs.items
params_of (state.NamedType t) = in_field_type (fields_of t.before.items) t.names.items (open_of t.reading)

abbrev pub GoesOn : Progress → Type 0
GoesOn fails = ⊥
GoesOn _ = Unit {0}

-- What the code answers is what the machine does, unless memory ran out or the terminal's nesting n passes the limit.
abbrev pub FailsStep : StepFault → Progress → ℕ → Type 0
FailsStep fault.NoMemory then n = Unit {0}
FailsStep fault.Unexpected then n = then ≡ fails
FailsStep fault.TooDeep then n = (NESTING_LIMIT < n) × GoesOn then

abbrev pub Steps : Result ParametersProgress StepFault → Progress → ℕ → Type 0
Steps (Ok (progress.Goes s)) then n = (then ≡ goes (params_of s)) × (n ≤ NESTING_LIMIT)
Steps (Ok (progress.Ends ps)) then n = (then ≡ ends (parameters_of ps)) × (n ≤ NESTING_LIMIT)
Steps (Err e) then n = FailsStep e then n
