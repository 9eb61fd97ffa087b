-- What a parser answers where tokens have no tree.
use Rattle.std.specs.Prelude.{◌≡◌, ℕ, zero, suc, ◌+◌, ◌<◌, ◌≤◌, List, [], ◌∷◌, ◌++◌, length, take, Result, Ok, Err}
use Rattle.base.specs.declared.pos.Pos.{Pos}
use Rattle.scan_go.specs.declared.token.Token.{Token}
use Rattle.syntax.specs.declared.limit.TheConstants.{NESTING_LIMIT}
use Rattle.syntax.specs.declared.declaration.Tree.{Tree}
use Rattle.parse_expressions.specs.declared.terminal.Terminal.{Terminal}
use Rattle.parse_go.specs.declared.fault.ParseFault.{ParseFault}
use Rattle.parse_go.specs.declared.fault.ParseFault.TheVariants as fault
use Rattle.syntax.specs.Declarations.{File, Syntax, syntax_of}
use Rattle.parse_expressions.specs.Terminals.{terminals_of}
use Rattle.parse_expressions.specs.Grammar.{Mark, nesting_of, terminals_in}
use Rattle.parse_go.specs.Grammar.{IsMarked, IsShallow}

-- some text begins with these terminals, whatever its nestings
abbrev pub Begins : List Terminal → Type 0
Begins front = (ms : List Mark) × (f : File) × (rest : List Terminal) × (terminals_in ms ≡ front ++ rest) × IsMarked ms f

-- in each text that begins with these terminals their nestings are as P says
abbrev pub InEachText : List Terminal → (List Mark → Type 0) → Type 0
InEachText front P = (ms : List Mark) (f : File) (rest : List Terminal) → terminals_in ms ≡ front ++ rest → IsMarked ms f → P (take (length front) ms)

-- The i-th terminal is the first with which no text begins; where i is their number, they end too early.
pub record IsUnexpected (ts : List Terminal) (i : ℕ) : Type 0 where
  pub within : i ≤ length ts
  pub before : Begins (take i ts)
  pub shallow : InEachText (take i ts) IsShallow
  pub terminal : i < length ts → Begins (take (i + 1) ts) → ⊥
  pub ends : length ts ≤ i → (ms : List Mark) (f : File) → terminals_in ms ≡ ts → IsMarked ms f → ⊥

-- the last of some marks passes the limit, and it alone
abbrev pub LastIsDeep : List Mark → Type 0
LastIsDeep [] = ⊥
LastIsDeep (m ∷ []) = NESTING_LIMIT < nesting_of m
LastIsDeep (m ∷ n ∷ ms) = (nesting_of m ≤ NESTING_LIMIT) × LastIsDeep (n ∷ ms)

-- Some text begins with the terminals up to the i-th, and in each that does it is the first whose nesting passes the limit.
pub record IsTooDeep (ts : List Terminal) (i : ℕ) : Type 0 where
  pub within : i < length ts
  pub begins : Begins (take (i + 1) ts)
  pub deep : InEachText (take (i + 1) ts) LastIsDeep

-- the position of the i-th token, or after the last one the position where the text ends
abbrev pub pos_in : List Token → Pos → ℕ → Pos
pos_in [] end i = end
pos_in (t ∷ ts) end zero = t.pos
pos_in (t ∷ ts) end (suc i) = pos_in ts end i

-- The fault is the first of these tokens, whose text ends at the position end.
abbrev pub IsFirstFault : List Token → Pos → ParseFault → Type 0
IsFirstFault tokens end fault.NoMemory = Unit {0}
IsFirstFault tokens end (fault.Unexpected pos) = (i : ℕ) × (pos ≡ pos_in tokens end i) × IsUnexpected (terminals_of tokens) i
IsFirstFault tokens end (fault.TooDeep pos) = (i : ℕ) × (pos ≡ pos_in tokens end i) × IsTooDeep (terminals_of tokens) i

-- the tree, unless memory ran out
abbrev pub GivesTree : Result Tree ParseFault → Syntax → Type 0
GivesTree (Ok t) tree = syntax_of t ≡ tree
GivesTree (Err fault.NoMemory) tree = Unit {0}
GivesTree (Err (fault.Unexpected pos)) tree = ⊥
GivesTree (Err (fault.TooDeep pos)) tree = ⊥
