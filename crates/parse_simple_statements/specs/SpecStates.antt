-- The states of the code that reads declarations of constants and variables, as those of the machine, and what a step answers.
use Rattle.std.specs.Prelude.{◌≡◌, ℕ, ◌<◌, ◌≤◌, Result, Ok, Err}
use Rattle.syntax.specs.declared.limit.TheConstants.{NESTING_LIMIT}
use Rattle.syntax.specs.Expressions.{exs_of, ex_in}
use Rattle.syntax.specs.Statements.{ValueSpec, value_specs_of}
use Rattle.parse_expressions.specs.declared.fault.StepFault.{StepFault}
use Rattle.parse_expressions.specs.declared.fault.StepFault.TheVariants as fault
use Rattle.parse_expressions.specs.States.{open_of}
use Rattle.parse_simple_statements.specs.declared.value_specs.Valued.{Valued}
use Rattle.parse_simple_statements.specs.declared.value_specs.ValueSpecs.{ValueSpecs as CodeSpecs}
use Rattle.parse_simple_statements.specs.declared.value_specs.ValueSpecs.TheVariants as state
use Rattle.parse_simple_statements.specs.declared.value_specs.SpecsProgress.{SpecsProgress}
use Rattle.parse_simple_statements.specs.declared.value_specs.SpecsProgress.TheVariants as progress
use Rattle.parse_simple_statements.specs.ValueSpecs.{Specs, at_first, at_spec, at_next_name, at_names, in_type, in_value, at_group_end, Progress, fails, goes, ends}
use Rattle.parse_simple_statements.specs.Spots.{spot_of}

abbrev pub specs_of : CodeSpecs → Specs
specs_of (state.First d) = at_first
specs_of (state.Spec d specs) = at_spec (value_specs_of specs.items)
specs_of (state.NextName n) = at_next_name (spot_of n.spot) n.names.items
specs_of (state.Names n) = at_names (spot_of n.spot) n.names.items
specs_of (state.Type t) = in_type (spot_of t.named.spot) t.named.names.items (open_of t.reading)
specs_of (state.Value v) = in_value (spot_of v.before.named.spot) v.before.named.names.items (ex_in v.before.type_expr) (exs_of v.before.values.items) (open_of v.reading)
specs_of (state.GroupEnd d specs) = at_group_end (value_specs_of specs.items)

-- a whole one of them
abbrev pub whole_spec : Valued → ValueSpec
whole_spec v = record { names = v.named.names.items; type_expr = ex_in v.type_expr; values = exs_of v.values.items }

-- how many brackets are open around the declaration
abbrev pub depth_of : CodeSpecs → ℕ
depth_of (state.First d) = d.brackets
depth_of (state.Spec d specs) = d.brackets
depth_of (state.NextName n) = n.depth.brackets
depth_of (state.Names n) = n.depth.brackets
depth_of (state.Type t) = t.named.depth.brackets
depth_of (state.Value v) = v.before.named.depth.brackets
depth_of (state.GroupEnd d specs) = d.brackets

abbrev pub GoesOn : Progress → Type 0
GoesOn (goes s) = Unit {0}
GoesOn _ = ⊥

-- What the code answers is what the machine does, unless memory ran out or the terminal's nesting n passes the limit.
abbrev pub FailsStep : StepFault → Progress → ℕ → Type 0
FailsStep fault.NoMemory then n = Unit {0}
FailsStep fault.Unexpected then n = then ≡ fails
FailsStep fault.TooDeep then n = (NESTING_LIMIT < n) × GoesOn then

abbrev pub Steps : Result SpecsProgress StepFault → ℕ → Progress → ℕ → Type 0
Steps (Ok (progress.Goes s)) d then n = (then ≡ goes (specs_of s)) × (depth_of s ≡ d) × (n ≤ NESTING_LIMIT)
Steps (Ok (progress.Ends specs)) d then n = then ≡ ends (value_specs_of specs.items)
Steps (Err e) d then n = FailsStep e then n
