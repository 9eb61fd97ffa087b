-- The states of the code, as those of the machine, and what a step of the code answers.
use Rattle.std.specs.Prelude.{◌≡◌, ℕ, ◌<◌, ◌≤◌, List, IsSome, Option, Some, None, Result, Ok, Err}
use Rattle.base.specs.declared.pos.Pos.{Pos}
use Rattle.syntax.specs.declared.limit.TheConstants.{NESTING_LIMIT}
use Rattle.syntax.specs.Declarations.{File, parameters_of}
use Rattle.parse_expressions.specs.declared.fault.StepFault.{StepFault}
use Rattle.parse_expressions.specs.declared.fault.StepFault.TheVariants as fault
use Rattle.parse_expressions.specs.declared.terminal.Terminal.{Terminal}
use Rattle.parse_expressions.specs.States.{open_of}
use Rattle.parse_simple_statements.specs.Spots.{declares_of}
use Rattle.parse_simple_statements.specs.SpecStates.{specs_of}
use Rattle.parse_statements.specs.BodyStates as bodies
use Rattle.parse_go.specs.declared.fault.ParseFault.{ParseFault}
use Rattle.parse_go.specs.declared.fault.ParseFault.TheVariants as parse_fault
use Rattle.parse_go.specs.declared.signature.File.{File as CodeFile}
use Rattle.parse_go.specs.declared.state.State.{State as CodeState}
use Rattle.parse_go.specs.declared.state.State.TheVariants as state
use Rattle.parse_go.specs.Grammar.{IsProgram}
use Rattle.parse_go.specs.Machine.{State, at_package, at_package_name, at_package_end, at_declaration, in_values, in_types, at_function, at_opening, in_params, at_results, in_result, in_results, at_body, in_body, at_end}
use Rattle.parse_go.specs.TypeStates.{types_of}
use Rattle.parse_go.specs.ParameterStates.{params_of}
use Rattle.parse_go.specs.Signatures.{file_in, named_of, signature_of}

abbrev pub state_of : CodeState → State
state_of state.Package = at_package
state_of state.PackageName = at_package_name
state_of (state.PackageEnd x) = at_package_end x
state_of (state.Declaration f) = at_declaration (file_in f)
state_of (state.Values v) = in_values (file_in v.file) (declares_of v.kind) v.pos (specs_of v.specs)
state_of (state.Types f pos s) = in_types (file_in f) pos (types_of s)
state_of (state.Function f pos) = at_function (file_in f) pos
state_of (state.Opening n) = at_opening (named_of n)
state_of (state.Params n p) = in_params (named_of n) (params_of p)
state_of (state.Results n ps) = at_results (named_of n) (parameters_of ps)
state_of (state.Result r) = in_result (named_of r.named) (parameters_of r.params) (open_of r.reading)
state_of (state.ResultList n ps p) = in_results (named_of n) (parameters_of ps) (params_of p)
state_of (state.Body s) = at_body (signature_of s)
state_of (state.InBody s b) = in_body (signature_of s) (bodies.state_of b)
state_of (state.End f) = at_end (file_in f)

-- What the code answers is the machine's next state, unless memory ran out or the terminal's nesting n passes the limit.
abbrev pub FailsStep : StepFault → Option State → ℕ → Type 0
FailsStep fault.NoMemory then n = Unit {0}
FailsStep fault.Unexpected then n = then ≡ None
FailsStep fault.TooDeep then n = (NESTING_LIMIT < n) × IsSome then

abbrev pub Steps : Result CodeState StepFault → Option State → ℕ → Type 0
Steps (Ok s) then n = (then ≡ Some (state_of s)) × (n ≤ NESTING_LIMIT)
Steps (Err e) then n = FailsStep e then n

-- what the state holds where the text may end
abbrev pub Finishes : Option CodeFile → State → Type 0
Finishes (Some f) s = s ≡ at_declaration (file_in f)
Finishes None s = (f : File) → s ≡ at_declaration f → ⊥

-- a fault of a step, at the position of its token
abbrev pub fault_at : StepFault → Pos → ParseFault
fault_at fault.NoMemory pos = parse_fault.NoMemory
fault_at fault.Unexpected pos = parse_fault.Unexpected pos
fault_at fault.TooDeep pos = parse_fault.TooDeep pos

abbrev pub HasOneFile : List Terminal → File → Type 0
HasOneFile ts f = (other : File) → IsProgram ts other → f ≡ other
