-- What may follow in each state of the machine, whatever may follow the whole body.
use Rattle.std.specs.Prelude.{◌≡◌, ℕ, Bool, true, List, [], ◌∷◌, ◌++◌}
use Rattle.base.specs.declared.pos.Pos.{Pos}
use Rattle.syntax.specs.Statements.{Stms, nil}
use Rattle.parse_expressions.specs.declared.terminal.Terminal.{Terminal}
use Rattle.parse_expressions.specs.Grammar.{Mark, inside}
use Rattle.parse_statements.specs.Grammar.{IsBody}
use Rattle.parse_statements.specs.Outer.{around}
use Rattle.parse_statements.specs.Bodies.{State, at_statement, fails, goes, ends, step, nesting}

-- what may follow a whole body: any relation that a test decides
abbrev pub Test : Type 0
Test = Stms → Pos → List Mark → Bool

abbrev pub beginning : State
beginning = at_statement (around [] nil)

-- a body after its opening brace, with the position of the closing one, and then what may follow it
abbrev pub IsText : Test → List Mark → Type 0
IsText test ms = (ss : Stms) × (end : Pos) × (rest : List Mark) × IsBody 0 ss end ms rest × (test ss end rest ≡ true)

-- the machine goes on over these marks, each with its nesting, from a state to another
abbrev pub Leads : State → List Mark → State → Type 0
Leads s [] last = s ≡ last
Leads s (inside t j ∷ ms) last = (next : State) × (step s t ≡ goes next) × (j ≡ nesting s t) × Leads next ms last

-- what a state that is reached over the marks ms says of the texts that begin with them
pub record Foretells (test : Test) (ms : List Mark) (s : State) : Type 0 where
  -- none goes on with a terminal at which the machine fails
  pub failed : (t : Terminal) (j : ℕ) (w : List Mark) → step s t ≡ fails → IsText test (ms ++ inside t j ∷ w) → ⊥
  -- a terminal at which it goes on has the nesting that the machine says
  pub nested : (t : Terminal) (j : ℕ) (w : List Mark) (next : State) → step s t ≡ goes next → IsText test (ms ++ inside t j ∷ w) → j ≡ nesting s t
  -- where it ends with a terminal, which has that nesting too, those and no others go on with it in which what was read is the whole
  pub ended : (t : Terminal) (j : ℕ) (w : List Mark) (ss : Stms) (end : Pos) → step s t ≡ ends ss end → IsText test (ms ++ inside t j ∷ w) → (j ≡ nesting s t) × (test ss end w ≡ true)
  pub whole : (t : Terminal) (w : List Mark) (ss : Stms) (end : Pos) → step s t ≡ ends ss end → test ss end w ≡ true → IsText test (ms ++ inside t (nesting s t) ∷ w)
  -- only the state tells what may follow, and not the way to it
  pub alike : (other w : List Mark) → Leads beginning other s → IsText test (ms ++ w) → IsText test (other ++ w)
  -- something may follow, if something may follow each whole
  pub viable : ((ss : Stms) (end : Pos) → (n : List Mark) × (test ss end n ≡ true)) → (w : List Mark) × IsText test (ms ++ w)

-- whatever may follow the whole, each state says it
abbrev pub StatesForetell : Type 0
StatesForetell = (test : Test) (ms : List Mark) (s : State) → Leads beginning ms s → Foretells test ms s
