-- What may follow in each state of the two machines, whatever may follow the whole declaration or simple statement.
use Rattle.std.specs.Prelude.{◌≡◌, ℕ, Bool, true, false, List, [], ◌∷◌, ◌++◌, ◌⊎◌}
use Rattle.base.specs.declared.pos.Pos.{Pos}
use Rattle.syntax.specs.Statements.{Simple, ValueSpec, Targets, no_targets, targets_assigned, targets_defined}
use Rattle.parse_expressions.specs.declared.terminal.Terminal.{Terminal}
use Rattle.parse_expressions.specs.declared.terminal.Terminal.TheVariants.{Operator, Range, Assign, Update, Define, Increment, Decrement, Comma, Period, LeftParen, LeftBracket, LeftBrace}
use Rattle.parse_expressions.specs.Grammar.{Mark, inside, ReadsExs}
use Rattle.parse_simple_statements.specs.Grammar.{Declares, ReadsNames, ReadsValueSpec, IsGroup, ReadsSimple, IsPost}
use Rattle.parse_simple_statements.specs.Simples.{Context, Simples}
use Rattle.parse_simple_statements.specs.Simples as simples
use Rattle.parse_simple_statements.specs.ValueSpecs.{Specs}
use Rattle.parse_simple_statements.specs.ValueSpecs as value_specs

-- ---- declarations of constants and variables

-- what may follow a whole declaration: any relation that a test decides
abbrev pub SpecsTest : Type 0
SpecsTest = List ValueSpec → List Mark → Bool

-- a declaration after its word, inside of d brackets, and then what may follow it
abbrev pub AreSpecs : Declares → ℕ → SpecsTest → List Mark → Type 0
AreSpecs k d test ms = (specs : List ValueSpec) × (rest : List Mark) × IsGroup (ReadsValueSpec k) d specs ms rest × (test specs rest ≡ true)

-- the machine goes on over these marks, each with its nesting, from a state to another
abbrev pub SpecsLead : Declares → ℕ → Specs → List Mark → Specs → Type 0
SpecsLead k d s [] end = s ≡ end
SpecsLead k d s (inside t j ∷ ms) end = (next : Specs) × (value_specs.step k d s t ≡ value_specs.goes next) × (j ≡ value_specs.nesting d s t) × SpecsLead k d next ms end

-- a terminal that goes on with a declaration that may be whole
abbrev pub ExtendsSpecs : Terminal → Type 0
ExtendsSpecs (Operator pos op) = Unit {0}
ExtendsSpecs (LeftParen pos) = Unit {0}
ExtendsSpecs (Period pos) = Unit {0}
ExtendsSpecs (LeftBracket pos) = Unit {0}
ExtendsSpecs (LeftBrace pos) = Unit {0}
ExtendsSpecs (Assign pos) = Unit {0}
ExtendsSpecs Comma = Unit {0}
ExtendsSpecs _ = ⊥

-- no such terminal may follow the whole
abbrev pub AreApart : SpecsTest → Type 0
AreApart test = (specs : List ValueSpec) (t : Terminal) (j : ℕ) (w : List Mark) → ExtendsSpecs t → test specs (inside t j ∷ w) ≡ true → ⊥

-- what a state that is reached over the marks ms says of the texts that begin with them
pub record SpecsForetell (k : Declares) (d : ℕ) (test : SpecsTest) (ms : List Mark) (s : Specs) : Type 0 where
  -- none goes on with a terminal at which the machine fails
  pub failed : (t : Terminal) (j : ℕ) (w : List Mark) → value_specs.step k d s t ≡ value_specs.fails → AreSpecs k d test (ms ++ inside t j ∷ w) → ⊥
  -- a terminal at which it goes on has the nesting that the machine says
  pub nested : (t : Terminal) (j : ℕ) (w : List Mark) (next : Specs) → value_specs.step k d s t ≡ value_specs.goes next → AreSpecs k d test (ms ++ inside t j ∷ w) → j ≡ value_specs.nesting d s t
  -- where it ends at a terminal, those and no others go on with it in which what was read is the whole
  pub ended : (t : Terminal) (j : ℕ) (w : List Mark) (specs : List ValueSpec) → value_specs.step k d s t ≡ value_specs.ends specs → AreSpecs k d test (ms ++ inside t j ∷ w) → test specs (inside t j ∷ w) ≡ true
  pub whole : (t : Terminal) (j : ℕ) (w : List Mark) (specs : List ValueSpec) → value_specs.step k d s t ≡ value_specs.ends specs → test specs (inside t j ∷ w) ≡ true → AreSpecs k d test (ms ++ inside t j ∷ w)
  -- only the state tells what may follow, and not the way to it
  pub alike : (other w : List Mark) → SpecsLead k d value_specs.at_first other s → AreSpecs k d test (ms ++ w) → AreSpecs k d test (other ++ w)
  -- something may follow, if something may follow each whole
  pub viable : ((specs : List ValueSpec) → (n : List Mark) × (test specs n ≡ true)) → (w : List Mark) × AreSpecs k d test (ms ++ w)

-- whatever may follow the whole declaration, each state says it
abbrev pub SpecStatesForetell : Type 0
SpecStatesForetell = (k : Declares) (d : ℕ) (test : SpecsTest) (ms : List Mark) (s : Specs) → AreApart test → SpecsLead k d value_specs.at_first ms s → SpecsForetell k d test ms s

-- ---- simple statements

-- a simple statement that may stand in a context
abbrev pub IsAllowed : Bool → Simple → Type 0
IsAllowed true s = Unit {0}
IsAllowed false s = IsPost s

-- what a `range` gives its values to, and its operator
abbrev pub ReadsTarget : Context → Targets → List Mark → List Mark → Type 0
ReadsTarget p no_targets ts rest = ⊥
ReadsTarget p (targets_assigned ls pos) ts rest = ReadsExs p.literals p.depth ls ts (inside (Assign pos) p.depth ∷ rest)
ReadsTarget p (targets_defined xs pos) ts rest = (p.defines ≡ true) × ReadsNames p.depth xs ts (inside (Define pos) p.depth ∷ rest)

-- what may follow a whole statement, and what a `range`: any relations that tests decide
pub record SimpleTests : Type 0 where
  pub after_whole : Simple → List Mark → Bool
  pub after_range : Targets → Pos → List Mark → Bool

-- a whole statement that may stand in the context, and then what may follow it
pub record WholeStands (p : Context) (tests : SimpleTests) (ms : List Mark) : Type 0 where
  pub whole : Simple
  pub rest : List Mark
  pub allowed : IsAllowed p.defines whole
  pub reads : ReadsSimple p.literals p.depth whole ms rest
  pub follows : tests.after_whole whole rest ≡ true

-- what stands before a `range` and the word, where one may stand, and then what may follow it
pub record RangeStands (p : Context) (tests : SimpleTests) (ms : List Mark) : Type 0 where
  pub may : p.ranges ≡ true
  pub targets : Targets
  pub pos : Pos
  pub rest : List Mark
  pub reads : ReadsTarget p targets ms (inside (Range pos) p.depth ∷ rest)
  pub follows : tests.after_range targets pos rest ≡ true

abbrev pub IsSimple : Context → SimpleTests → List Mark → Type 0
IsSimple p tests ms = WholeStands p tests ms ⊎ RangeStands p tests ms

-- the machine goes on over these marks, each with its nesting, from a state to another
abbrev pub SimplesLead : Context → Simples → List Mark → Simples → Type 0
SimplesLead p s [] end = s ≡ end
SimplesLead p s (inside t j ∷ ms) end = (next : Simples) × (simples.step p s t ≡ simples.goes next) × (j ≡ simples.nesting p s t) × SimplesLead p next ms end

-- a terminal that goes on with a simple statement that is whole
abbrev pub ExtendsSimple : Context → Terminal → Type 0
ExtendsSimple p (Operator pos op) = Unit {0}
ExtendsSimple p (LeftParen pos) = Unit {0}
ExtendsSimple p (Period pos) = Unit {0}
ExtendsSimple p (LeftBracket pos) = Unit {0}
ExtendsSimple p (LeftBrace pos) = p.literals ≡ true
ExtendsSimple p Comma = Unit {0}
ExtendsSimple p (Assign pos) = Unit {0}
ExtendsSimple p (Update pos op) = Unit {0}
ExtendsSimple p (Define pos) = Unit {0}
ExtendsSimple p (Increment pos) = Unit {0}
ExtendsSimple p (Decrement pos) = Unit {0}
ExtendsSimple p _ = ⊥

-- no such terminal may follow the whole
abbrev pub IsApart : Context → SimpleTests → Type 0
IsApart p tests = (s : Simple) (t : Terminal) (j : ℕ) (w : List Mark) → ExtendsSimple p t → tests.after_whole s (inside t j ∷ w) ≡ true → ⊥

-- what a state that is reached over the marks ms says of the texts that begin with them
pub record SimplesForetell (p : Context) (tests : SimpleTests) (ms : List Mark) (s : Simples) : Type 0 where
  -- none goes on with a terminal at which the machine fails
  pub failed : (t : Terminal) (j : ℕ) (w : List Mark) → simples.step p s t ≡ simples.fails → IsSimple p tests (ms ++ inside t j ∷ w) → ⊥
  -- a terminal at which it goes on has the nesting that the machine says
  pub nested : (t : Terminal) (j : ℕ) (w : List Mark) (next : Simples) → simples.step p s t ≡ simples.goes next → IsSimple p tests (ms ++ inside t j ∷ w) → j ≡ simples.nesting p s t
  -- where it ends at a terminal, those and no others go on with it in which what was read is the whole
  pub ended : (t : Terminal) (j : ℕ) (w : List Mark) (x : Simple) → simples.step p s t ≡ simples.ends x → IsSimple p tests (ms ++ inside t j ∷ w) → tests.after_whole x (inside t j ∷ w) ≡ true
  pub whole : (t : Terminal) (j : ℕ) (w : List Mark) (x : Simple) → simples.step p s t ≡ simples.ends x → tests.after_whole x (inside t j ∷ w) ≡ true → IsSimple p tests (ms ++ inside t j ∷ w)
  -- the same where the terminal is a `range`, which has the nesting that the machine says
  pub ranged : (t : Terminal) (j : ℕ) (w : List Mark) (x : Targets) (pos : Pos) → simples.step p s t ≡ simples.ranges x pos → IsSimple p tests (ms ++ inside t j ∷ w) → (j ≡ simples.nesting p s t) × (tests.after_range x pos w ≡ true)
  pub range : (t : Terminal) (w : List Mark) (x : Targets) (pos : Pos) → simples.step p s t ≡ simples.ranges x pos → tests.after_range x pos w ≡ true → IsSimple p tests (ms ++ inside t (simples.nesting p s t) ∷ w)
  -- only the state tells what may follow, and not the way to it
  pub alike : (other w : List Mark) → SimplesLead p simples.beginning other s → IsSimple p tests (ms ++ w) → IsSimple p tests (other ++ w)
  -- something may follow, if something may follow each whole
  pub viable : ((x : Simple) → (n : List Mark) × (tests.after_whole x n ≡ true)) → (w : List Mark) × IsSimple p tests (ms ++ w)

-- whatever may follow the whole statement or a `range`, each state says it
abbrev pub SimpleStatesForetell : Type 0
SimpleStatesForetell = (p : Context) (tests : SimpleTests) (ms : List Mark) (s : Simples) → IsApart p tests → SimplesLead p simples.beginning ms s → SimplesForetell p tests ms s
