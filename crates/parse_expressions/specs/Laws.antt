-- What may follow in each state of the machine, whatever may follow the whole expression or type.
use Rattle.std.specs.Prelude.{◌≡◌, ℕ, Bool, true, false, List, [], ◌∷◌, ◌++◌, if◌then◌else◌}
use Rattle.syntax.specs.Expressions.{Ex}
use Rattle.parse_expressions.specs.declared.terminal.Terminal.{Terminal}
use Rattle.parse_expressions.specs.declared.terminal.Terminal.TheVariants.{Operator, Period, LeftParen, LeftBracket, LeftBrace}
use Rattle.parse_expressions.specs.Grammar.{Mark, inside, IsValue, ReadsType, ReadsValue}
use Rattle.parse_expressions.specs.Machine.{Context, Open, at_operand, at_type_operand, fails, goes, ends, step, nesting}

-- what may follow a whole expression: any relation that a test decides
abbrev pub Test : Type 0
Test = Ex → List Mark → Bool

-- where a type is wanted, or else a value
abbrev pub ReadsPart : Bool → Bool → ℕ → Ex → List Mark → List Mark → Type 0
ReadsPart true l d e ts rest = ReadsType l d e ts rest
ReadsPart false l d e ts rest = ReadsValue l d e ts rest

abbrev pub beginning : Bool → Open
beginning types = if types then at_type_operand [] else at_operand []

-- a text of the context b: a whole expression or type, and then what may follow it
abbrev pub IsText : Context → Test → List Mark → Type 0
IsText b test ms = (e : Ex) × (rest : List Mark) × ReadsPart b.types b.literals b.depth e ms rest × (test e rest ≡ true)

-- the machine goes on over these marks, each with its nesting, from a state to another
abbrev pub Leads : Context → Open → List Mark → Open → Type 0
Leads b s [] end = s ≡ end
Leads b s (inside t j ∷ ms) end = (next : Open) × (step b s t ≡ goes next) × (j ≡ nesting b s t) × Leads b next ms end

-- a terminal that goes on with an expression that is whole
abbrev pub Extends : Context → Terminal → Type 0
Extends b (Operator pos op) = Unit {0}
Extends b (LeftParen pos) = Unit {0}
Extends b (Period pos) = Unit {0}
Extends b (LeftBracket pos) = Unit {0}
Extends b (LeftBrace pos) = b.literals ≡ true
Extends b _ = ⊥

-- where a value is wanted, no such terminal may follow the whole
abbrev pub IsApart : Context → Test → Type 0
IsApart b test = b.types ≡ false → (e : Ex) (t : Terminal) (j : ℕ) (w : List Mark) → Extends b t → test e (inside t j ∷ w) ≡ true → ⊥

-- what a state that is reached over the marks ms says of the texts that begin with them
pub record Foretells (b : Context) (test : Test) (ms : List Mark) (s : Open) : Type 0 where
  -- none goes on with a terminal at which the machine fails
  pub failed : (t : Terminal) (j : ℕ) (w : List Mark) → step b s t ≡ fails → IsText b test (ms ++ inside t j ∷ w) → ⊥
  -- a terminal at which it goes on has the nesting that the machine says
  pub nested : (t : Terminal) (j : ℕ) (w : List Mark) (next : Open) → step b s t ≡ goes next → IsText b test (ms ++ inside t j ∷ w) → j ≡ nesting b s t
  -- where it ends at a terminal, those and no others go on with it in which what was read is the whole
  pub ended : (t : Terminal) (j : ℕ) (w : List Mark) (e : Ex) → step b s t ≡ ends e → IsText b test (ms ++ inside t j ∷ w) → test e (inside t j ∷ w) ≡ true
  pub whole : (t : Terminal) (j : ℕ) (w : List Mark) (e : Ex) → step b s t ≡ ends e → test e (inside t j ∷ w) ≡ true → IsText b test (ms ++ inside t j ∷ w)
  -- only the state tells what may follow, and not the way to it
  pub alike : (other w : List Mark) → Leads b (beginning b.types) other s → IsText b test (ms ++ w) → IsText b test (other ++ w)
  -- something may follow, if something may follow each whole
  pub viable : ((e : Ex) → (b.types ≡ false → IsValue e) → (n : List Mark) × (test e n ≡ true)) → (w : List Mark) × IsText b test (ms ++ w)

-- whatever may follow the whole, each state says it
abbrev pub StatesForetell : Type 0
StatesForetell = (b : Context) (test : Test) (ms : List Mark) (s : Open) → IsApart b test → Leads b (beginning b.types) ms s → Foretells b test ms s
