-- The steps of the code that reads whole texts: where the step of a part fails, so does that of the whole.
use Rattle.std.proofs.Common.{◌≡◌, ℕ, [], refl}
use Rattle.std.specs.Prelude.{Result}
use Rattle.base.specs.declared.pos.Pos.{Pos}
use Rattle.syntax.specs.Declarations.{Parameters, File}
use Rattle.parse_expressions.specs.declared.fault.StepFault.{StepFault}
use Rattle.parse_expressions.specs.declared.fault.StepFault.TheVariants as fault
use Rattle.parse_expressions.specs.declared.terminal.Terminal.{Terminal}
use Rattle.parse_expressions.specs.declared.terminal.Terminal.TheVariants.{Semicolon, LeftParen, LeftBrace}
use Rattle.parse_expressions.specs.Machine.{Open, at_type_operand}
use Rattle.parse_expressions.specs.Machine as expression
use Rattle.parse_expressions.specs.States as expressions
use Rattle.parse_simple_statements.specs.Grammar.{Declares}
use Rattle.parse_simple_statements.specs.ValueSpecs.{Specs}
use Rattle.parse_simple_statements.specs.ValueSpecs as value_specs
use Rattle.parse_simple_statements.specs.SpecStates as spec_states
use Rattle.parse_statements.specs.Bodies as bodies
use Rattle.parse_statements.specs.BodyStates as body_states
use Rattle.parse_go.specs.declared.signature.File.{File as CodeFile}
use Rattle.parse_go.specs.declared.state.State.{State as CodeState}
use Rattle.parse_go.specs.declared.state.State.TheVariants as state
use Rattle.parse_go.specs.TypeSpecs.{Types}
use Rattle.parse_go.specs.TypeSpecs as type_specs
use Rattle.parse_go.specs.TypeStates as type_states
use Rattle.parse_go.specs.Parameters as parameters
use Rattle.parse_go.specs.ParameterStates as parameter_states
use Rattle.parse_go.specs.Machine.{Named, Signature, at_declaration, at_results, in_result, after_values, after_types, after_params, after_result, after_results, after_body, nesting_values, nesting_types, nesting_result, result_context, step, nesting}
use Rattle.parse_go.specs.States.{state_of, FailsStep, Steps}

pub values_fail : (f : File) (k : Declares) (pos : Pos) (s : Specs) (t : Terminal) (e : StepFault) (p : value_specs.Progress) → spec_states.FailsStep e p (value_specs.nesting 0 s t) → FailsStep e (after_values f k pos t p) (nesting_values s t p)
values_fail f k pos s t fault.NoMemory p h = tt
values_fail f k pos s t fault.Unexpected value_specs.fails h = refl
values_fail f k pos s t fault.Unexpected (value_specs.goes n) h = absurd cc
values_fail f k pos s t fault.Unexpected (value_specs.ends specs) h = absurd cc
values_fail f k pos s t fault.TooDeep value_specs.fails h = absurd h.1
values_fail f k pos s t fault.TooDeep (value_specs.goes n) h = (h.0, refl)
values_fail f k pos s t fault.TooDeep (value_specs.ends specs) h = absurd h.1

pub types_fail : (f : File) (pos : Pos) (s : Types) (t : Terminal) (e : StepFault) (p : type_specs.Progress) → type_states.FailsStep e p (type_specs.nesting s t) → FailsStep e (after_types f pos t p) (nesting_types s t p)
types_fail f pos s t fault.NoMemory p h = tt
types_fail f pos s t fault.Unexpected type_specs.fails h = refl
types_fail f pos s t fault.Unexpected (type_specs.goes n) h = absurd cc
types_fail f pos s t fault.Unexpected (type_specs.ends specs) h = absurd cc
types_fail f pos s t fault.TooDeep type_specs.fails h = absurd h.1
types_fail f pos s t fault.TooDeep (type_specs.goes n) h = (h.0, refl)
types_fail f pos s t fault.TooDeep (type_specs.ends specs) h = absurd h.1

pub params_fail : (n : Named) (d : ℕ) (e : StepFault) (p : parameters.Progress) → parameter_states.FailsStep e p d → FailsStep e (after_params n p) d
params_fail n d fault.NoMemory p h = tt
params_fail n d fault.Unexpected parameters.fails h = refl
params_fail n d fault.Unexpected (parameters.goes s) h = absurd cc
params_fail n d fault.Unexpected (parameters.ends ps) h = absurd cc
params_fail n d fault.TooDeep parameters.fails h = absurd h.1
params_fail n d fault.TooDeep (parameters.goes s) h = (h.0, refl)
params_fail n d fault.TooDeep (parameters.ends ps) h = (h.0, refl)

pub results_fail : (n : Named) (ps : Parameters) (d : ℕ) (e : StepFault) (p : parameters.Progress) → parameter_states.FailsStep e p d → FailsStep e (after_results n ps p) d
results_fail n ps d fault.NoMemory p h = tt
results_fail n ps d fault.Unexpected parameters.fails h = refl
results_fail n ps d fault.Unexpected (parameters.goes s) h = absurd cc
results_fail n ps d fault.Unexpected (parameters.ends rs) h = absurd cc
results_fail n ps d fault.TooDeep parameters.fails h = absurd h.1
results_fail n ps d fault.TooDeep (parameters.goes s) h = (h.0, refl)
results_fail n ps d fault.TooDeep (parameters.ends rs) h = (h.0, refl)

pub result_fails : (n : Named) (ps : Parameters) (o : Open) (t : Terminal) (e : StepFault) (p : expression.Progress) → expressions.FailsStep e p (expression.nesting result_context o t) → FailsStep e (after_result n ps t p) (nesting_result o t p)
result_fails n ps o t fault.NoMemory p h = tt
result_fails n ps o t fault.Unexpected expression.fails h = refl
result_fails n ps o t fault.Unexpected (expression.goes s) h = absurd cc
result_fails n ps o t fault.Unexpected (expression.ends e) h = absurd cc
result_fails n ps o t fault.TooDeep expression.fails h = absurd h.1
result_fails n ps o t fault.TooDeep (expression.goes s) h = (h.0, refl)
result_fails n ps o t fault.TooDeep (expression.ends e) h = absurd h.1

pub body_fails : (s : Signature) (d : ℕ) (e : StepFault) (p : bodies.Progress) → body_states.FailsStep e p d → FailsStep e (after_body s p) d
body_fails s d fault.NoMemory p h = tt
body_fails s d fault.Unexpected bodies.fails h = refl
body_fails s d fault.Unexpected (bodies.goes b) h = absurd cc
body_fails s d fault.Unexpected (bodies.ends ss end) h = absurd cc
body_fails s d fault.TooDeep bodies.fails h = absurd h.1
body_fails s d fault.TooDeep (bodies.goes b) h = (h.0, refl)
body_fails s d fault.TooDeep (bodies.ends ss end) h = (h.0, refl)

-- the first token of a result
begun : (n : Named) (ps : Parameters) (t : Terminal) (answer : Result CodeState StepFault) (p : expression.Progress) → Steps answer (after_result n ps t p) (nesting_result (at_type_operand []) t p) → Steps answer (after_result n ps t p) 0
begun n ps t answer expression.fails h = h
begun n ps t answer (expression.goes o) h = h
begun n ps t answer (expression.ends e) h = h

pub result_begins : (n : Named) (ps : Parameters) (t : Terminal) (answer : Result CodeState StepFault) → ((q : Pos) → t ≡ LeftParen q → ⊥) → ((q : Pos) → t ≡ LeftBrace q → ⊥) → (t ≡ Semicolon → ⊥) → Steps answer (step (in_result n ps (at_type_operand [])) t) (nesting (in_result n ps (at_type_operand [])) t) → Steps answer (step (at_results n ps) t) 0
result_begins n ps (LeftParen q) answer no_list no_body no_end h = absurd (no_list q refl)
result_begins n ps (LeftBrace q) answer no_list no_body no_end h = absurd (no_body q refl)
result_begins n ps Semicolon answer no_list no_body no_end h = absurd (no_end refl)
result_begins n ps t answer no_list no_body no_end h = begun n ps t answer (expression.step result_context (at_type_operand []) t) h

-- the text may end in one state alone
pub ends_not : (s : CodeState) → ((f : CodeFile) → s ≡ state.Declaration f → ⊥) → (f : File) → state_of s ≡ at_declaration f → ⊥
ends_not (state.Declaration d) other f is = other d refl
ends_not s other f is = cc
