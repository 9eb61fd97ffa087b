-- What may follow in each state of the parser of a simple statement, where the relation K says what may follow a whole one, and R what
-- may follow a `range` after what it gives its values to.
use Rattle.std.proofs.Common.{◌≡◌, ℕ, true, List, ◌∷◌, ◌⊎◌, Some}
use Rattle.base.specs.declared.pos.Pos.{Pos}
use Rattle.syntax.specs.declared.operator.ArithmeticOp.{ArithmeticOp}
use Rattle.syntax.specs.declared.expression.Name.{Name}
use Rattle.syntax.specs.Expressions.{Ex, Exs, none, some}
use Rattle.syntax.specs.Statements.{Simple, express, increment, decrement, Targets, targets_assigned, targets_defined}
use Rattle.parse_expressions.specs.declared.terminal.Terminal.{Terminal}
use Rattle.parse_expressions.specs.declared.terminal.Terminal.TheVariants.{Operator, Range, Assign, Update, Define, Increment, Decrement, Comma, Period, LeftParen, LeftBracket, LeftBrace}
use Rattle.parse_expressions.specs.Grammar.{Mark, inside}
use Rattle.parse_expressions.proofs.Following as expression
use Rattle.parse_simple_statements.specs.Grammar.{ReadsSimple}
use Rattle.parse_simple_statements.specs.Simples.{Context, expression_context, Listed, to_assign, to_update, to_define, listed_simple, Simples, in_left, at_value, in_value, at_end, Progress, fails, goes, ends, ranges, names_in}
use Rattle.parse_simple_statements.specs.Laws.{IsAllowed, ReadsTarget}
use Rattle.parse_simple_statements.proofs.Marks.{NextAt}
use Rattle.parse_simple_statements.proofs.ValueLists.{Values, MoreValues}

-- ---- a simple statement, and what stands before a `range`

pub record OneSimple (p : Context) (K : Simple → List Mark → Type 0) (w : List Mark) : Type 0 where
  pub whole : Simple
  pub rest : List Mark
  pub allowed : IsAllowed p.defines whole
  pub reads : ReadsSimple p.literals p.depth whole w rest
  pub follows : K whole rest

pub record Ranged (p : Context) (R : Targets → Pos → List Mark → Type 0) (w : List Mark) : Type 0 where
  pub may : p.ranges ≡ true
  pub targets : Targets
  pub pos : Pos
  pub rest : List Mark
  pub reads : ReadsTarget p targets w (inside (Range pos) p.depth ∷ rest)
  pub follows : R targets pos rest

-- ---- what may follow

-- a `range` after the operator
abbrev pub RangeOver : (Targets → Pos → List Mark → Type 0) → Listed → Pos → List Mark → Type 0
RangeOver R (to_assign ls pos) range_pos w = R (targets_assigned ls pos) range_pos w
RangeOver R (to_update ls pos op) range_pos w = ⊥
RangeOver R (to_define xs pos) range_pos w = R (targets_defined xs pos) range_pos w

-- after the operator
abbrev pub BehindOperator : Context → (Simple → List Mark → Type 0) → (Targets → Pos → List Mark → Type 0) → Listed → List Mark → Type 0
BehindOperator p K R l w = Values p.literals p.depth (λ es m. K (listed_simple l es) m) w ⊎ ((p.ranges ≡ true) × NextAt Range p.depth (RangeOver R l) w)

-- an operator after these expressions
pub data Operated (p : Context) (K : Simple → List Mark → Type 0) (R : Targets → Pos → List Mark → Type 0) (ls : Exs) : List Mark → Type 0 where
  assigned : {q : Pos} {w : List Mark} → BehindOperator p K R (to_assign ls q) w → Operated p K R ls (inside (Assign q) p.depth ∷ w)
  updated : {q : Pos} {op : ArithmeticOp} {w : List Mark} → BehindOperator p K R (to_update ls q op) w → Operated p K R ls (inside (Update q op) p.depth ∷ w)
  defined : {q : Pos} {xs : List Name} {w : List Mark} → p.defines ≡ true → names_in ls ≡ Some xs → BehindOperator p K R (to_define xs q) w → Operated p K R ls (inside (Define q) p.depth ∷ w)

-- the expression e is the only one: it is the statement, or a `++` or `--` follows
pub data Single (p : Context) (K : Simple → List Mark → Type 0) (e : Ex) : List Mark → Type 0 where
  expressed : {w : List Mark} → K (express e) w → Single p K e w
  incremented : {q : Pos} {w : List Mark} → K (increment e q) w → Single p K e (inside (Increment q) p.depth ∷ w)
  decremented : {q : Pos} {w : List Mark} → K (decrement e q) w → Single p K e (inside (Decrement q) p.depth ∷ w)

abbrev pub Alone : Context → (Simple → List Mark → Type 0) → Exs → Ex → List Mark → Type 0
Alone p K none e w = Single p K e w
Alone p K (some a es) e w = ⊥

-- after one of the expressions that a statement begins with, after es
abbrev pub BehindLeft : Context → (Simple → List Mark → Type 0) → (Targets → Pos → List Mark → Type 0) → Exs → Ex → List Mark → Type 0
BehindLeft p K R es e w = MoreValues p.literals p.depth (Operated p K R) es e w ⊎ Alone p K es e w

-- after one of the values, after es
abbrev pub BehindValue : Context → (Simple → List Mark → Type 0) → Listed → Exs → Ex → List Mark → Type 0
BehindValue p K l es e w = MoreValues p.literals p.depth (λ all_of m. K (listed_simple l all_of) m) es e w

abbrev pub Rest : Context → (Simple → List Mark → Type 0) → (Targets → Pos → List Mark → Type 0) → Simples → List Mark → Type 0
Rest p K R (in_left es o) w = expression.Rest (expression_context p) (BehindLeft p K R es) o w
Rest p K R (at_value l) w = BehindOperator p K R l w
Rest p K R (in_value l es o) w = expression.Rest (expression_context p) (BehindValue p K l es) o w
Rest p K R (at_end s) w = K s w

-- ---- what each state keeps

abbrev pub Valid : Context → Simples → Type 0
Valid p (in_left es o) = expression.ValidOpen (expression_context p) o
Valid p (in_value l es o) = expression.ValidOpen (expression_context p) o
Valid p _ = Unit {0}

abbrev pub ValidNext : Context → Progress → Type 0
ValidNext p (goes s) = Valid p s
ValidNext p _ = Unit {0}

-- ---- a terminal, and what follows it

-- a terminal that goes on with a simple statement that is whole
abbrev pub GoesOn : Context → Terminal → Type 0
GoesOn p (Operator pos op) = Unit {0}
GoesOn p (LeftParen pos) = Unit {0}
GoesOn p (Period pos) = Unit {0}
GoesOn p (LeftBracket pos) = Unit {0}
GoesOn p (LeftBrace pos) = p.literals ≡ true
GoesOn p Comma = Unit {0}
GoesOn p (Assign pos) = Unit {0}
GoesOn p (Update pos op) = Unit {0}
GoesOn p (Define pos) = Unit {0}
GoesOn p (Increment pos) = Unit {0}
GoesOn p (Decrement pos) = Unit {0}
GoesOn p _ = ⊥

-- no such terminal follows a whole simple statement
pub record Apart (p : Context) (K : Simple → List Mark → Type 0) : Type 0 where
  pub never : (s : Simple) (t : Terminal) (j : ℕ) (w : List Mark) → GoesOn p t → K s (inside t j ∷ w) → ⊥

-- What may follow a terminal t of nesting j, where the machine makes this progress at it; n is the nesting where it goes on or where t
-- is a `range`. Where the statement ended before t, t is not taken.
abbrev pub After : Context → (Simple → List Mark → Type 0) → (Targets → Pos → List Mark → Type 0) → Progress → ℕ → Terminal → ℕ → List Mark → Type 0
After p K R fails n t j w = ⊥
After p K R (goes s) n t j w = (j ≡ n) × Rest p K R s w
After p K R (ends s) n t j w = K s (inside t j ∷ w)
After p K R (ranges targets at) n t j w = (j ≡ n) × R targets at w
