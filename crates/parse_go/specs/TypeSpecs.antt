-- The parser of declarations of struct types as a machine, from after their word.
use Rattle.std.specs.Prelude.{ℕ, suc, true, List, [], ◌∷◌, ◌++◌}
use Rattle.syntax.specs.declared.expression.Name.{Name}
use Rattle.syntax.specs.Expressions.{Ex}
use Rattle.syntax.specs.Declarations.{Field, TypeSpec}
use Rattle.parse_expressions.specs.declared.terminal.Terminal.{Terminal}
use Rattle.parse_expressions.specs.declared.terminal.Terminal.TheVariants.{Identifier, Struct, Comma, Semicolon, LeftParen, RightParen, LeftBrace, RightBrace}
use Rattle.parse_expressions.specs.Machine.{Context, Open, at_type_operand}
use Rattle.parse_expressions.specs.Machine as expression

-- where one of them stands: alone, or in parentheses after these
pub data Spot : Type 0 where
  alone_here : Spot
  in_group : List TypeSpec → Spot

-- a struct type whose brace is open, with its fields so far
pub record Fields : Type 0 where
  pub spot : Spot
  pub name : Name
  pub fields : List Field

-- what was read, and what is wanted next
pub data Types : Type 0 where
  -- after the word
  at_first : Types
  -- in parentheses after the opening one or a semicolon
  at_spec : List TypeSpec → Types
  -- after the name, and after the word `struct`
  at_struct : Spot → Name → Types
  at_brace : Spot → Name → Types
  -- in braces after the opening one or a semicolon; after a comma after names; after the last of some names; and in their type
  at_field : Fields → Types
  at_next_name : Fields → List Name → Types
  at_names : Fields → List Name → Types
  in_type : Fields → List Name → Open → Types
  -- after the closing brace
  at_end : Spot → TypeSpec → Types
  -- after the closing parenthesis
  at_group_end : List TypeSpec → Types

-- what the next terminal does; `ends` is for a declaration that ended before it
pub data Progress : Type 0 where
  fails : Progress
  goes : Types → Progress
  ends : List TypeSpec → Progress

-- inside of how many brackets one of them stands
abbrev pub spot_depth : Spot → ℕ
spot_depth alone_here = 0
spot_depth (in_group specs) = 1

abbrev pub type_context : Fields → Context
type_context s = record { depth = suc (spot_depth s.spot); literals = true; types = true }

abbrev pub with_field : Fields → List Name → Ex → Fields
with_field s xs e = record { spot = s.spot; name = s.name; fields = s.fields ++ record { names = xs; type_expr = e } ∷ [] }

abbrev pub spec_of : Fields → TypeSpec
spec_of s = record { name = s.name; fields = s.fields }

abbrev pub behind_type : Fields → Terminal → Progress
behind_type s Semicolon = goes (at_field s)
behind_type s (RightBrace q) = goes (at_end s.spot (spec_of s))
behind_type s t = fails

abbrev pub after_type : Fields → List Name → Terminal → expression.Progress → Progress
after_type s xs t expression.fails = fails
after_type s xs t (expression.goes o) = goes (in_type s xs o)
after_type s xs t (expression.ends e) = behind_type (with_field s xs e) t

abbrev pub spec_ends : Spot → TypeSpec → Terminal → Progress
spec_ends alone_here s t = ends (s ∷ [])
spec_ends (in_group specs) s Semicolon = goes (at_spec (specs ++ s ∷ []))
spec_ends (in_group specs) s RightParen = goes (at_group_end (specs ++ s ∷ []))
spec_ends (in_group specs) s t = fails

abbrev pub step : Types → Terminal → Progress
step at_first (Identifier x) = goes (at_struct alone_here x)
step at_first (LeftParen pos) = goes (at_spec [])
step at_first t = fails
step (at_spec specs) (Identifier x) = goes (at_struct (in_group specs) x)
step (at_spec specs) RightParen = goes (at_group_end specs)
step (at_spec specs) t = fails
step (at_struct s x) Struct = goes (at_brace s x)
step (at_struct s x) t = fails
step (at_brace s x) (LeftBrace q) = goes (at_field (record { spot = s; name = x; fields = [] }))
step (at_brace s x) t = fails
step (at_field s) (Identifier x) = goes (at_names s (x ∷ []))
step (at_field s) (RightBrace q) = goes (at_end s.spot (spec_of s))
step (at_field s) t = fails
step (at_next_name s xs) (Identifier x) = goes (at_names s (xs ++ x ∷ []))
step (at_next_name s xs) t = fails
step (at_names s xs) Comma = goes (at_next_name s xs)
step (at_names s xs) t = after_type s xs t (expression.step (type_context s) (at_type_operand []) t)
step (in_type s xs o) t = after_type s xs t (expression.step (type_context s) o t)
step (at_end s x) t = spec_ends s x t
step (at_group_end specs) t = ends specs

-- ---- the nesting of the next terminal, where the machine goes on

abbrev pub nesting_at_end : Spot → Terminal → ℕ
nesting_at_end s RightParen = 0
nesting_at_end s t = spot_depth s

abbrev pub nesting_in_braces : Fields → Terminal → ℕ
nesting_in_braces s (RightBrace q) = spot_depth s.spot
nesting_in_braces s t = suc (spot_depth s.spot)

abbrev pub nesting_after : Fields → Open → Terminal → expression.Progress → ℕ
nesting_after s o t (expression.goes p) = expression.nesting (type_context s) o t
nesting_after s o t p = nesting_in_braces s t

abbrev pub nesting : Types → Terminal → ℕ
nesting at_first t = 0
nesting (at_spec specs) RightParen = 0
nesting (at_spec specs) t = 1
nesting (at_struct s x) t = spot_depth s
nesting (at_brace s x) t = spot_depth s
nesting (at_field s) t = nesting_in_braces s t
nesting (at_next_name s xs) t = suc (spot_depth s.spot)
nesting (at_names s xs) t = suc (spot_depth s.spot)
nesting (in_type s xs o) t = nesting_after s o t (expression.step (type_context s) o t)
nesting (at_end s x) t = nesting_at_end s t
nesting (at_group_end specs) t = 0
