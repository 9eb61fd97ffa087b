-- The parser of a simple statement as a machine; in the header of a `for` it may turn out to be what stands before a `range`.
use Rattle.std.specs.Prelude.{ℕ, Bool, false, List, [], ◌∷◌, Option, Some, None, if◌then◌else◌}
use Rattle.std.specs.Option.{option_map}
use Rattle.base.specs.declared.pos.Pos.{Pos}
use Rattle.syntax.specs.declared.operator.ArithmeticOp.{ArithmeticOp}
use Rattle.syntax.specs.declared.expression.Name.{Name}
use Rattle.syntax.specs.Expressions.{Ex, name, Exs, none, some}
use Rattle.syntax.specs.Statements.{Simple, express, assign, update, define, increment, decrement, Targets, targets_assigned, targets_defined}
use Rattle.syntax.specs.Lists.{with_ex}
use Rattle.parse_expressions.specs.declared.terminal.Terminal.{Terminal}
use Rattle.parse_expressions.specs.declared.terminal.Terminal.TheVariants.{Range, Assign, Update, Define, Increment, Decrement, Comma}
use Rattle.parse_expressions.specs.Machine.{Context as ExpressionContext, Open, at_operand}
use Rattle.parse_expressions.specs.Machine as expression

-- where a simple statement stands: inside of how many brackets, whether a literal in it may begin with a name, whether it may be a
-- `:=`, and whether a `range` may follow its operator
pub record Context : Type 0 where
  pub depth : ℕ
  pub literals : Bool
  pub defines : Bool
  pub ranges : Bool

abbrev pub expression_context : Context → ExpressionContext
expression_context p = record { depth = p.depth; literals = p.literals; types = false }

-- a statement with values, up to its operator
pub data Listed : Type 0 where
  to_assign : Exs → Pos → Listed
  to_update : Exs → Pos → ArithmeticOp → Listed
  to_define : List Name → Pos → Listed

abbrev pub listed_simple : Listed → Exs → Simple
listed_simple (to_assign ls pos) es = assign ls pos es
listed_simple (to_update ls pos op) es = update ls pos op es
listed_simple (to_define xs pos) es = define xs pos es

-- what was read, and what is wanted next
pub data Simples : Type 0 where
  -- an expression is read after these
  in_left : Exs → Open → Simples
  -- after the operator
  at_value : Listed → Simples
  -- a value is read after these
  in_value : Listed → Exs → Open → Simples
  -- after `++` or `--`
  at_end : Simple → Simples

-- where a simple statement begins
abbrev pub beginning : Simples
beginning = in_left none (at_operand [])

-- what the next terminal does; `ends` is for a statement that ended before it, `ranges` for a `range`, which it is
pub data Progress : Type 0 where
  fails : Progress
  goes : Simples → Progress
  ends : Simple → Progress
  ranges : Targets → Pos → Progress

-- the names that some expressions are, if each is one
abbrev pub names_in : Exs → Option (List Name)
names_in none = Some []
names_in (some (name x) es) = option_map (λ xs. x ∷ xs) (names_in es)
names_in (some e es) = None

abbrev pub defines_names : Option (List Name) → Pos → Progress
defines_names (Some xs) pos = goes (at_value (to_define xs pos))
defines_names None pos = fails

-- a terminal after the only expression so far
abbrev pub behind_one : Ex → Terminal → Progress
behind_one e (Increment pos) = goes (at_end (increment e pos))
behind_one e (Decrement pos) = goes (at_end (decrement e pos))
behind_one e t = ends (express e)

-- a terminal after these expressions, of which e is the last
abbrev pub behind_list : Exs → Ex → Terminal → Progress
behind_list none e t = behind_one e t
behind_list (some a es) e t = fails

abbrev pub behind_left : Context → Exs → Ex → Terminal → Progress
behind_left p es e Comma = goes (in_left (with_ex es e) (at_operand []))
behind_left p es e (Assign pos) = goes (at_value (to_assign (with_ex es e) pos))
behind_left p es e (Update pos op) = goes (at_value (to_update (with_ex es e) pos op))
behind_left p es e (Define pos) = if p.defines then defines_names (names_in (with_ex es e)) pos else fails
behind_left p es e t = behind_list es e t

abbrev pub after_left : Context → Exs → Terminal → expression.Progress → Progress
after_left p es t expression.fails = fails
after_left p es t (expression.goes o) = goes (in_left es o)
after_left p es t (expression.ends e) = behind_left p es e t

abbrev pub behind_value : Listed → Exs → Terminal → Progress
behind_value l es Comma = goes (in_value l es (at_operand []))
behind_value l es t = ends (listed_simple l es)

abbrev pub after_value : Listed → Exs → Terminal → expression.Progress → Progress
after_value l es t expression.fails = fails
after_value l es t (expression.goes o) = goes (in_value l es o)
after_value l es t (expression.ends e) = behind_value l (with_ex es e) t

-- a `range` after the operator
abbrev pub ranges_over : Listed → Pos → Progress
ranges_over (to_assign ls pos) range_pos = ranges (targets_assigned ls pos) range_pos
ranges_over (to_update ls pos op) range_pos = fails
ranges_over (to_define xs pos) range_pos = ranges (targets_defined xs pos) range_pos

abbrev pub step : Context → Simples → Terminal → Progress
step p (in_left es o) t = after_left p es t (expression.step (expression_context p) o t)
step p (at_value l) (Range range_pos) = if p.ranges then ranges_over l range_pos else fails
step p (at_value l) t = after_value l none t (expression.step (expression_context p) (at_operand []) t)
step p (in_value l es o) t = after_value l es t (expression.step (expression_context p) o t)
step p (at_end s) t = ends s

-- ---- the nesting of the next terminal, where the machine goes on or a `range` begins

abbrev pub nesting_after : ExpressionContext → Open → Terminal → expression.Progress → ℕ
nesting_after b o t (expression.goes q) = expression.nesting b o t
nesting_after b o t q = b.depth

abbrev pub nesting : Context → Simples → Terminal → ℕ
nesting p (in_left es o) t = nesting_after (expression_context p) o t (expression.step (expression_context p) o t)
nesting p (at_value l) t = p.depth
nesting p (in_value l es o) t = nesting_after (expression_context p) o t (expression.step (expression_context p) o t)
nesting p (at_end s) t = p.depth
