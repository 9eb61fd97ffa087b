-- The parser of declarations of constants and variables as a machine, from after their word.
use Rattle.std.specs.Prelude.{ℕ, suc, true, false, List, [], ◌∷◌, ◌++◌, Option, Some, None}
use Rattle.syntax.specs.declared.expression.Name.{Name}
use Rattle.syntax.specs.Expressions.{Ex, Exs, none}
use Rattle.syntax.specs.Statements.{ValueSpec}
use Rattle.syntax.specs.Lists.{with_ex}
use Rattle.parse_expressions.specs.declared.terminal.Terminal.{Terminal}
use Rattle.parse_expressions.specs.declared.terminal.Terminal.TheVariants.{Identifier, Assign, Comma, Semicolon, LeftParen, RightParen}
use Rattle.parse_expressions.specs.Machine.{Context, Open, at_operand, at_type_operand}
use Rattle.parse_expressions.specs.Machine as expression
use Rattle.parse_simple_statements.specs.Grammar.{Declares, of_constants, of_variables}

-- where one of them stands: alone, or in parentheses after these
pub data Spot : Type 0 where
  alone_here : Spot
  in_group : List ValueSpec → Spot

-- what was read, and what is wanted next
pub data Specs : Type 0 where
  -- after the word
  at_first : Specs
  -- in parentheses after the opening one or a semicolon
  at_spec : List ValueSpec → Specs
  -- after a comma after these names, and after the last of them
  at_next_name : Spot → List Name → Specs
  at_names : Spot → List Name → Specs
  in_type : Spot → List Name → Open → Specs
  -- a value is read after these
  in_value : Spot → List Name → Option Ex → Exs → Open → Specs
  -- after the closing parenthesis
  at_group_end : List ValueSpec → Specs

-- what the next terminal does; `ends` is for a declaration that ended before it
pub data Progress : Type 0 where
  fails : Progress
  goes : Specs → Progress
  ends : List ValueSpec → Progress

-- inside of how many brackets one of them stands
abbrev pub spot_depth : ℕ → Spot → ℕ
spot_depth d alone_here = d
spot_depth d (in_group specs) = suc d

abbrev pub type_context : ℕ → Spot → Context
type_context d s = record { depth = spot_depth d s; literals = true; types = true }

abbrev pub value_context : ℕ → Spot → Context
value_context d s = record { depth = spot_depth d s; literals = true; types = false }

-- a terminal after a whole one of them
abbrev pub spec_ends : Spot → ValueSpec → Terminal → Progress
spec_ends alone_here s t = ends (s ∷ [])
spec_ends (in_group specs) s Semicolon = goes (at_spec (specs ++ s ∷ []))
spec_ends (in_group specs) s RightParen = goes (at_group_end (specs ++ s ∷ []))
spec_ends (in_group specs) s t = fails

-- a value begins, after the ones before
abbrev pub value_wanted : Spot → List Name → Option Ex → Exs → Progress
value_wanted s xs o es = goes (in_value s xs o es (at_operand []))

-- a terminal after the type
abbrev pub behind_type : Declares → Spot → List Name → Ex → Terminal → Progress
behind_type k s xs e (Assign pos) = value_wanted s xs (Some e) none
behind_type of_constants s xs e t = fails
behind_type of_variables s xs e t = spec_ends s (record { names = xs; type_expr = Some e; values = none }) t

abbrev pub after_type : Declares → Spot → List Name → Terminal → expression.Progress → Progress
after_type k s xs t expression.fails = fails
after_type k s xs t (expression.goes o) = goes (in_type s xs o)
after_type k s xs t (expression.ends e) = behind_type k s xs e t

abbrev pub behind_value : Spot → List Name → Option Ex → Exs → Terminal → Progress
behind_value s xs o es Comma = value_wanted s xs o es
behind_value s xs o es t = spec_ends s (record { names = xs; type_expr = o; values = es }) t

abbrev pub after_value : Spot → List Name → Option Ex → Exs → Terminal → expression.Progress → Progress
after_value s xs o es t expression.fails = fails
after_value s xs o es t (expression.goes e) = goes (in_value s xs o es e)
after_value s xs o es t (expression.ends e) = behind_value s xs o (with_ex es e) t

abbrev pub step : Declares → ℕ → Specs → Terminal → Progress
step k d at_first (Identifier x) = goes (at_names alone_here (x ∷ []))
step k d at_first (LeftParen pos) = goes (at_spec [])
step k d at_first t = fails
step k d (at_spec specs) (Identifier x) = goes (at_names (in_group specs) (x ∷ []))
step k d (at_spec specs) RightParen = goes (at_group_end specs)
step k d (at_spec specs) t = fails
step k d (at_next_name s xs) (Identifier x) = goes (at_names s (xs ++ x ∷ []))
step k d (at_next_name s xs) t = fails
step k d (at_names s xs) Comma = goes (at_next_name s xs)
step k d (at_names s xs) (Assign pos) = value_wanted s xs None none
step k d (at_names s xs) t = after_type k s xs t (expression.step (type_context d s) (at_type_operand []) t)
step k d (in_type s xs o) t = after_type k s xs t (expression.step (type_context d s) o t)
step k d (in_value s xs o es e) t = after_value s xs o es t (expression.step (value_context d s) e t)
step k d (at_group_end specs) t = ends specs

-- ---- the nesting of the next terminal, where the machine goes on

abbrev pub nesting_at_end : ℕ → Spot → Terminal → ℕ
nesting_at_end d s RightParen = d
nesting_at_end d s t = spot_depth d s

abbrev pub nesting_after : ℕ → Spot → Context → Open → Terminal → expression.Progress → ℕ
nesting_after d s b o t (expression.goes p) = expression.nesting b o t
nesting_after d s b o t p = nesting_at_end d s t

abbrev pub nesting : ℕ → Specs → Terminal → ℕ
nesting d at_first t = d
nesting d (at_spec specs) RightParen = d
nesting d (at_spec specs) t = suc d
nesting d (at_next_name s xs) t = spot_depth d s
nesting d (at_names s xs) t = spot_depth d s
nesting d (in_type s xs o) t = nesting_after d s (type_context d s) o t (expression.step (type_context d s) o t)
nesting d (in_value s xs o es e) t = nesting_after d s (value_context d s) e t (expression.step (value_context d s) e t)
nesting d (at_group_end specs) t = d
