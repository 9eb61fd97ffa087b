-- The parser of parameters or results in parentheses as a machine, from after the opening one.
use Rattle.std.specs.Prelude.{ℕ, true, List, [], ◌∷◌, ◌++◌}
use Rattle.syntax.specs.declared.expression.Name.{Name}
use Rattle.syntax.specs.Expressions.{Ex, name, Exs, none, some}
use Rattle.syntax.specs.Lists.{with_ex}
use Rattle.syntax.specs.Declarations.{Field, Parameters, unnamed, named}
use Rattle.parse_expressions.specs.declared.terminal.Terminal.{Terminal}
use Rattle.parse_expressions.specs.declared.terminal.Terminal.TheVariants.{Identifier, Comma, RightParen}
use Rattle.parse_expressions.specs.Machine.{Context, Open, at_type_operand}
use Rattle.parse_expressions.specs.Machine as expression

-- what was read, and what is wanted next
pub data Params : Type 0 where
  -- names that may be types: after the opening parenthesis or a comma, and after the last of them
  at_name_or_type : List Name → Params
  at_names : List Name → Params
  -- types: after a comma, and in the next one
  at_next_type : Exs → Params
  in_type : Exs → Open → Params
  -- fields: after a comma, after a comma between names, after the last of some names, and in their type
  at_field : List Field → Params
  at_next_name : List Field → List Name → Params
  at_field_names : List Field → List Name → Params
  in_field_type : List Field → List Name → Open → Params

-- what the next terminal does; `ends` is for the closing parenthesis
pub data Progress : Type 0 where
  fails : Progress
  goes : Params → Progress
  ends : Parameters → Progress

abbrev pub type_context : Context
type_context = record { depth = 1; literals = true; types = true }

-- names as types
abbrev pub types_named : List Name → Exs
types_named [] = none
types_named (x ∷ xs) = some (name x) (types_named xs)

abbrev pub field_named : List Field → List Name → Ex → List Field
field_named fs xs e = fs ++ record { names = xs; type_expr = e } ∷ []

abbrev pub behind_type : Exs → Terminal → Progress
behind_type types Comma = goes (at_next_type types)
behind_type types RightParen = ends (unnamed types)
behind_type types t = fails

abbrev pub after_type : Exs → Terminal → expression.Progress → Progress
after_type types t expression.fails = fails
after_type types t (expression.goes o) = goes (in_type types o)
after_type types t (expression.ends e) = behind_type (with_ex types e) t

abbrev pub behind_field : List Field → Terminal → Progress
behind_field fs Comma = goes (at_field fs)
behind_field fs RightParen = ends (named fs)
behind_field fs t = fails

abbrev pub after_field : List Field → List Name → Terminal → expression.Progress → Progress
after_field fs xs t expression.fails = fails
after_field fs xs t (expression.goes o) = goes (in_field_type fs xs o)
after_field fs xs t (expression.ends e) = behind_field (field_named fs xs e) t

-- a type begins
abbrev pub type_begins : Terminal → expression.Progress
type_begins t = expression.step type_context (at_type_operand []) t

abbrev pub step : Params → Terminal → Progress
step (at_name_or_type xs) (Identifier x) = goes (at_names (xs ++ x ∷ []))
step (at_name_or_type xs) RightParen = ends (unnamed (types_named xs))
step (at_name_or_type xs) t = after_type (types_named xs) t (type_begins t)
step (at_names xs) Comma = goes (at_name_or_type xs)
step (at_names xs) RightParen = ends (unnamed (types_named xs))
step (at_names xs) t = after_field [] xs t (type_begins t)
step (at_next_type types) RightParen = ends (unnamed types)
step (at_next_type types) t = after_type types t (type_begins t)
step (in_type types o) t = after_type types t (expression.step type_context o t)
step (at_field fs) (Identifier x) = goes (at_field_names fs (x ∷ []))
step (at_field fs) RightParen = ends (named fs)
step (at_field fs) t = fails
step (at_next_name fs xs) (Identifier x) = goes (at_field_names fs (xs ++ x ∷ []))
step (at_next_name fs xs) t = fails
step (at_field_names fs xs) Comma = goes (at_next_name fs xs)
step (at_field_names fs xs) t = after_field fs xs t (type_begins t)
step (in_field_type fs xs o) t = after_field fs xs t (expression.step type_context o t)

-- ---- the nesting of the next terminal, where the machine does not fail

abbrev pub nesting_in_parens : Terminal → ℕ
nesting_in_parens RightParen = 0
nesting_in_parens t = 1

abbrev pub nesting_after : Open → Terminal → expression.Progress → ℕ
nesting_after o t (expression.goes p) = expression.nesting type_context o t
nesting_after o t p = nesting_in_parens t

abbrev pub nesting : Params → Terminal → ℕ
nesting (in_type types o) t = nesting_after o t (expression.step type_context o t)
nesting (in_field_type fs xs o) t = nesting_after o t (expression.step type_context o t)
nesting p t = nesting_in_parens t
