-- One type, where it begins.
use Rattle.std.proofs.Common.{◌≡◌, ℕ, true, List, [], ◌∷◌, Some, refl}
use Rattle.base.specs.declared.pos.Pos.{Pos}
use Rattle.syntax.specs.declared.operator.UnOp.TheVariants.{Star}
use Rattle.syntax.specs.declared.expression.Name.{Name}
use Rattle.syntax.specs.Expressions.{Ex, name, unary, paren, array_type, slice_type}
use Rattle.parse_expressions.specs.declared.terminal.Terminal.{Terminal}
use Rattle.parse_expressions.specs.declared.terminal.Terminal.TheVariants.{Identifier, LeftParen}
use Rattle.parse_expressions.specs.Terminals.{prefix, prefix_in}
use Rattle.parse_expressions.specs.Grammar.{Mark, inside, ReadsType}
use Rattle.parse_expressions.specs.Machine.{Context, at_type_operand, Progress, step}
use Rattle.parse_expressions.proofs.Following.{Iff, Apart, ValidOpen, Rest, After}
use Rattle.parse_expressions.proofs.Starts.{begins_type, begins_type_valid}
use Rattle.parse_expressions.proofs.Quotient.{quotient}
use Rattle.parse_simple_statements.proofs.Marks.{iff_trans}
use Rattle.parse_go.specs.Grammar.{IsBare}

-- where a type stands
abbrev pub type_at : ℕ → Context
type_at d = record { depth = d; literals = true; types = true }

-- what the machine does at a terminal where a type is wanted
abbrev pub type_step : ℕ → Terminal → Progress
type_step d t = step (type_at d) (at_type_operand []) t

-- one type, and then what Then says
pub record OneType (d : ℕ) (Then : Ex → List Mark → Type 0) (w : List Mark) : Type 0 where
  pub whole : Ex
  pub rest : List Mark
  pub reads : ReadsType true d whole w rest
  pub follows : Then whole rest

pub type_apart : (d : ℕ) (Then : Ex → List Mark → Type 0) → Apart (type_at d) Then
type_apart d Then = record { never = λ is e t j w on h. cc (is) }

pub type_valid : (d : ℕ) → ValidOpen (type_at d) (at_type_operand [])
type_valid d = begins_type_valid (type_at d) refl

pub type_begins : (d : ℕ) (Then : Ex → List Mark → Type 0) (w : List Mark) → Iff (OneType d Then w) (Rest (type_at d) Then (at_type_operand []) w)
type_begins d Then w = (
  λ h. (begins_type (type_at d) Then w refl).0 (h.whole, h.rest, h.reads, h.follows),
  λ h. let v = (begins_type (type_at d) Then w refl).1 h in record { whole = v.0; rest = v.1; reads = v.2; follows = v.3 },
)

-- the first terminal of a type
pub type_first : (d : ℕ) (Then : Ex → List Mark → Type 0) (t : Terminal) (j : ℕ) (w : List Mark) → Iff (OneType d Then (inside t j ∷ w)) (After (type_at d) Then (type_step d t) d t j w)
type_first d Then t j w = iff_trans (OneType d Then (inside t j ∷ w)) (Rest (type_at d) Then (at_type_operand []) (inside t j ∷ w)) (After (type_at d) Then (type_step d t) d t j w) (type_begins d Then (inside t j ∷ w)) (quotient (type_at d) Then (at_type_operand []) t j w (type_valid d) (type_apart d Then))

-- no type begins with such a terminal
pub no_type : (d : ℕ) (Then : Ex → List Mark → Type 0) (t : Terminal) (j : ℕ) (w : List Mark) → (After (type_at d) Then (type_step d t) d t j w → ⊥) → OneType d Then (inside t j ∷ w) → ⊥
no_type d Then t j w never h = never ((type_first d Then t j w).0 h)

pub type_some : (d : ℕ) (Then : Ex → List Mark → Type 0) → OneType d Then [] → ⊥
type_some d Then h = to h.whole h.reads
  where
    to : (e : Ex) → ReadsType true d e [] h.rest → ⊥
    to (name x) r = cc (r)
    to (unary pos Star e) r = cc (r.3)
    to (paren pos e) r = cc (r.1)
    to (array_type pos len e) r = cc (r.2)
    to (slice_type pos e) r = cc (r.1)
    to e r = r

-- a type that begins with a name is that name
pub type_name : (d : ℕ) (e : Ex) (x : Name) (j : ℕ) (w rest : List Mark) → ReadsType true d e (inside (Identifier x) j ∷ w) rest → (j ≡ d) × (e ≡ name x) × (w ≡ rest)
type_name d (name y) x j w rest r = (cc (r), cc (r), cc (r))
type_name d (unary pos Star e) x j w rest r = let is : r.0 ≡ Identifier x = cc (r.3) in absurd (no_prefix r.0 is r.2)
  where
    no_prefix : (t : Terminal) → t ≡ Identifier x → prefix_in t ≡ Some (prefix pos Star) → ⊥
    no_prefix (Identifier y) is p = cc (p)
    no_prefix t is p = cc (is)
type_name d (paren pos e) x j w rest r = absurd (cc (r.1))
type_name d (array_type pos len e) x j w rest r = absurd (cc (r.2))
type_name d (slice_type pos e) x j w rest r = absurd (cc (r.1))
type_name d e x j w rest r = absurd r

-- a type that begins with no parenthesis stands in none
pub type_bare : (d : ℕ) (e : Ex) (t : Terminal) (j : ℕ) (w rest : List Mark) → ((q : Pos) → t ≡ LeftParen q → ⊥) → ReadsType true d e (inside t j ∷ w) rest → IsBare e
type_bare d (paren pos e) t j w rest other r = other pos (cc (r.1))
type_bare d e t j w rest other r = tt

-- and one that begins with a parenthesis stands in it
pub type_not_bare : (d : ℕ) (e : Ex) (q : Pos) (j : ℕ) (w rest : List Mark) → ReadsType true d e (inside (LeftParen q) j ∷ w) rest → IsBare e → ⊥
type_not_bare d (name x) q j w rest r bare = cc (r)
type_not_bare d (unary pos Star e) q j w rest r bare = let is : r.0 ≡ LeftParen q = cc (r.3) in no_prefix r.0 is r.2
  where
    no_prefix : (t : Terminal) → t ≡ LeftParen q → prefix_in t ≡ Some (prefix pos Star) → ⊥
    no_prefix (LeftParen p) is s = cc (s)
    no_prefix t is s = cc (is)
type_not_bare d (paren pos e) q j w rest r bare = bare
type_not_bare d (array_type pos len e) q j w rest r bare = cc (r.2)
type_not_bare d (slice_type pos e) q j w rest r bare = cc (r.1)
type_not_bare d e q j w rest r bare = r
