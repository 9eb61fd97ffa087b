-- The parser of a whole text as a machine that takes one terminal at a time.
use Rattle.std.specs.Prelude.{ℕ, true, List, [], ◌∷◌, ◌++◌, Option, Some, None}
use Rattle.base.specs.declared.pos.Pos.{Pos}
use Rattle.syntax.specs.declared.expression.Name.{Name}
use Rattle.syntax.specs.Expressions.{none, some}
use Rattle.syntax.specs.Statements.{ValueSpec, nil}
use Rattle.syntax.specs.Declarations.{Parameters, unnamed, Body, Declaration, constants, variables, types, function, File}
use Rattle.parse_expressions.specs.declared.terminal.Terminal.{Terminal}
use Rattle.parse_expressions.specs.declared.terminal.Terminal.TheVariants.{Identifier, Package, Const, Var, «Type» as type_word, Func, Semicolon, LeftParen, LeftBrace}
use Rattle.parse_expressions.specs.Machine.{Context, Open, at_type_operand}
use Rattle.parse_expressions.specs.Machine as expression
use Rattle.parse_simple_statements.specs.Grammar.{Declares, of_constants, of_variables}
use Rattle.parse_simple_statements.specs.ValueSpecs.{Specs}
use Rattle.parse_simple_statements.specs.ValueSpecs as value_specs
use Rattle.parse_statements.specs.Outer.{around}
use Rattle.parse_statements.specs.Bodies as bodies
use Rattle.parse_go.specs.TypeSpecs.{Types}
use Rattle.parse_go.specs.TypeSpecs as type_specs
use Rattle.parse_go.specs.Parameters.{Params, at_name_or_type}
use Rattle.parse_go.specs.Parameters as parameters

-- a function up to its parameters, and up to its body, after the declarations before it
pub record Named : Type 0 where
  pub file : File
  pub pos : Pos
  pub name : Name

pub record Signature : Type 0 where
  pub file : File
  pub pos : Pos
  pub name : Name
  pub params : Parameters
  pub results : Parameters

-- what was read, and what is wanted next
pub data State : Type 0 where
  at_package : State
  at_package_name : State
  at_package_end : Name → State
  -- a declaration may begin, or the text may end
  at_declaration : File → State
  in_values : File → Declares → Pos → Specs → State
  in_types : File → Pos → Types → State
  -- after `func`, after the name, and in the parameters
  at_function : File → Pos → State
  at_opening : Named → State
  in_params : Named → Params → State
  -- after the parameters, in the results, and after results in parentheses
  at_results : Named → Parameters → State
  in_result : Named → Parameters → Open → State
  in_results : Named → Parameters → Params → State
  at_body : Signature → State
  in_body : Signature → bodies.State → State
  -- after a declaration
  at_end : File → State

abbrev pub with_declaration : File → Declaration → File
with_declaration f d = record { package_name = f.package_name; declarations = f.declarations ++ d ∷ [] }

abbrev pub with_results : Named → Parameters → Parameters → Signature
with_results n ps rs = record { file = n.file; pos = n.pos; name = n.name; params = ps; results = rs }

abbrev pub with_function : Signature → Option Body → File
with_function s b = with_declaration s.file (function (record { pos = s.pos; name = s.name; params = s.params; results = s.results; body = b }))

abbrev pub values_declared : Declares → Pos → List ValueSpec → Declaration
values_declared of_constants pos specs = constants pos specs
values_declared of_variables pos specs = variables pos specs

abbrev pub ends_declaration : File → Terminal → Option State
ends_declaration f Semicolon = Some (at_declaration f)
ends_declaration f t = None

abbrev pub after_values : File → Declares → Pos → Terminal → value_specs.Progress → Option State
after_values f k pos t value_specs.fails = None
after_values f k pos t (value_specs.goes s) = Some (in_values f k pos s)
after_values f k pos t (value_specs.ends specs) = ends_declaration (with_declaration f (values_declared k pos specs)) t

abbrev pub after_types : File → Pos → Terminal → type_specs.Progress → Option State
after_types f pos t type_specs.fails = None
after_types f pos t (type_specs.goes s) = Some (in_types f pos s)
after_types f pos t (type_specs.ends specs) = ends_declaration (with_declaration f (types pos specs)) t

abbrev pub after_params : Named → parameters.Progress → Option State
after_params n parameters.fails = None
after_params n (parameters.goes p) = Some (in_params n p)
after_params n (parameters.ends ps) = Some (at_results n ps)

-- a terminal after the results: the body opens, or there is none
abbrev pub behind_results : Signature → Terminal → Option State
behind_results s (LeftBrace q) = Some (in_body s (bodies.at_statement (around [] nil)))
behind_results s t = ends_declaration (with_function s None) t

abbrev pub result_context : Context
result_context = record { depth = 0; literals = true; types = true }

abbrev pub after_result : Named → Parameters → Terminal → expression.Progress → Option State
after_result n ps t expression.fails = None
after_result n ps t (expression.goes o) = Some (in_result n ps o)
after_result n ps t (expression.ends e) = behind_results (with_results n ps (unnamed (some e none))) t

abbrev pub after_results : Named → Parameters → parameters.Progress → Option State
after_results n ps parameters.fails = None
after_results n ps (parameters.goes p) = Some (in_results n ps p)
after_results n ps (parameters.ends rs) = Some (at_body (with_results n ps rs))

abbrev pub after_body : Signature → bodies.Progress → Option State
after_body s bodies.fails = None
after_body s (bodies.goes b) = Some (in_body s b)
after_body s (bodies.ends ss end) = Some (at_end (with_function s (Some (record { statements = ss; end = end }))))

abbrev pub step : State → Terminal → Option State
step at_package Package = Some at_package_name
step at_package t = None
step at_package_name (Identifier x) = Some (at_package_end x)
step at_package_name t = None
step (at_package_end x) Semicolon = Some (at_declaration (record { package_name = x; declarations = [] }))
step (at_package_end x) t = None
step (at_declaration f) (Const pos) = Some (in_values f of_constants pos value_specs.at_first)
step (at_declaration f) (Var pos) = Some (in_values f of_variables pos value_specs.at_first)
step (at_declaration f) (type_word pos) = Some (in_types f pos type_specs.at_first)
step (at_declaration f) (Func pos) = Some (at_function f pos)
step (at_declaration f) t = None
step (in_values f k pos s) t = after_values f k pos t (value_specs.step k 0 s t)
step (in_types f pos s) t = after_types f pos t (type_specs.step s t)
step (at_function f pos) (Identifier x) = Some (at_opening (record { file = f; pos = pos; name = x }))
step (at_function f pos) t = None
step (at_opening n) (LeftParen q) = Some (in_params n (at_name_or_type []))
step (at_opening n) t = None
step (in_params n p) t = after_params n (parameters.step p t)
step (at_results n ps) (LeftParen q) = Some (in_results n ps (at_name_or_type []))
step (at_results n ps) (LeftBrace q) = behind_results (with_results n ps (unnamed none)) (LeftBrace q)
step (at_results n ps) Semicolon = behind_results (with_results n ps (unnamed none)) Semicolon
step (at_results n ps) t = after_result n ps t (expression.step result_context (at_type_operand []) t)
step (in_result n ps o) t = after_result n ps t (expression.step result_context o t)
step (in_results n ps p) t = after_results n ps (parameters.step p t)
step (at_body s) t = behind_results s t
step (in_body s b) t = after_body s (bodies.step b t)
step (at_end f) t = ends_declaration f t

-- ---- the nesting of the next terminal, where the machine has a next state

abbrev pub nesting_values : Specs → Terminal → value_specs.Progress → ℕ
nesting_values s t (value_specs.goes p) = value_specs.nesting 0 s t
nesting_values s t p = 0

abbrev pub nesting_types : Types → Terminal → type_specs.Progress → ℕ
nesting_types s t (type_specs.goes p) = type_specs.nesting s t
nesting_types s t p = 0

abbrev pub nesting_result : Open → Terminal → expression.Progress → ℕ
nesting_result o t (expression.goes p) = expression.nesting result_context o t
nesting_result o t p = 0

abbrev pub nesting : State → Terminal → ℕ
nesting (in_values f k pos s) t = nesting_values s t (value_specs.step k 0 s t)
nesting (in_types f pos s) t = nesting_types s t (type_specs.step s t)
nesting (in_params n p) t = parameters.nesting p t
nesting (in_result n ps o) t = nesting_result o t (expression.step result_context o t)
nesting (in_results n ps p) t = parameters.nesting p t
nesting (in_body s b) t = bodies.nesting b t
nesting s t = 0
