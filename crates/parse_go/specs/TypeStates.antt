-- The states of the code that reads struct types, as those of the machine, and what a step of the code answers.
use Rattle.std.specs.Prelude.{◌≡◌, ℕ, ◌<◌, ◌≤◌, Result, Ok, Err}
use Rattle.syntax.specs.declared.limit.TheConstants.{NESTING_LIMIT}
use Rattle.syntax.specs.Declarations.{type_spec_of, type_specs_of}
use Rattle.parse_expressions.specs.declared.fault.StepFault.{StepFault}
use Rattle.parse_expressions.specs.declared.fault.StepFault.TheVariants as fault
use Rattle.parse_expressions.specs.States.{open_of}
use Rattle.parse_go.specs.declared.type_specs.TypeSpecs.{TypeSpecs}
use Rattle.parse_go.specs.declared.type_specs.TypeSpecs.TheVariants as state
use Rattle.parse_go.specs.declared.type_specs.TypesProgress.{TypesProgress}
use Rattle.parse_go.specs.declared.type_specs.TypesProgress.TheVariants as progress
use Rattle.parse_go.specs.TypeSpecs.{Types, at_first, at_spec, at_struct, at_brace, at_field, at_next_name, at_names, in_type, at_end, at_group_end, Progress, fails, goes, ends}
use Rattle.parse_go.specs.TypeSpots.{spot_of, struct_of}

abbrev pub types_of : TypeSpecs → Types
types_of state.First = at_first
types_of (state.Spec specs) = at_spec (type_specs_of specs.items)
types_of (state.Struct s x) = at_struct (spot_of s) x
types_of (state.Brace s x) = at_brace (spot_of s) x
types_of (state.Field s) = at_field (struct_of s)
types_of (state.NextName s xs) = at_next_name (struct_of s) xs.items
types_of (state.Names s xs) = at_names (struct_of s) xs.items
types_of (state.Type t) = in_type (struct_of t.owner) t.names.items (open_of t.reading)
types_of (state.End s x) = at_end (spot_of s) (type_spec_of x)
types_of (state.GroupEnd specs) = at_group_end (type_specs_of specs.items)

abbrev pub GoesOn : Progress → Type 0
GoesOn (goes s) = Unit {0}
GoesOn _ = ⊥

-- What the code answers is what the machine does, unless memory ran out or the terminal's nesting n passes the limit.
abbrev pub FailsStep : StepFault → Progress → ℕ → Type 0
FailsStep fault.NoMemory then n = Unit {0}
FailsStep fault.Unexpected then n = then ≡ fails
FailsStep fault.TooDeep then n = (NESTING_LIMIT < n) × GoesOn then

abbrev pub Steps : Result TypesProgress StepFault → Progress → ℕ → Type 0
Steps (Ok (progress.Goes s)) then n = (then ≡ goes (types_of s)) × (n ≤ NESTING_LIMIT)
Steps (Ok (progress.Ends specs)) then n = then ≡ ends (type_specs_of specs.items)
Steps (Err e) then n = FailsStep e then n
