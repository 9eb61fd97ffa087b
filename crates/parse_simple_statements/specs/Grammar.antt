-- The grammar of declarations of constants and variables, and of simple statements [Go specification, Constant declarations, Variable
-- declarations, Statements]. In each relation the marks ts begin with those of the tree, and rest is left after them; all that a
-- statement has stands inside of d brackets.
use Rattle.std.specs.Prelude.{◌≡◌, ℕ, suc, Bool, true, false, List, [], ◌∷◌, Option, Some, None}
use Rattle.base.specs.declared.pos.Pos.{Pos}
use Rattle.syntax.specs.declared.expression.Name.{Name}
use Rattle.syntax.specs.Expressions.{Ex, Exs, none, some}
use Rattle.syntax.specs.Statements.{Simple, express, assign, update, define, increment, decrement, ValueSpec}
use Rattle.parse_expressions.specs.declared.terminal.Terminal.TheVariants.{Identifier, Assign, Update, Define, Increment, Decrement, Comma, Semicolon, LeftParen, RightParen}
use Rattle.parse_expressions.specs.Grammar.{Mark, inside, ReadsType, ReadsValue, ReadsExs}

-- ---- names

-- further names, each after a comma
abbrev pub ReadsMoreNames : ℕ → List Name → List Mark → List Mark → Type 0
ReadsMoreNames d [] ts rest = ts ≡ rest
ReadsMoreNames d (x ∷ xs) ts rest = (m : List Mark) × (ts ≡ inside Comma d ∷ inside (Identifier x) d ∷ m) × ReadsMoreNames d xs m rest

-- one name or more
abbrev pub ReadsNames : ℕ → List Name → List Mark → List Mark → Type 0
ReadsNames d [] ts rest = ⊥
ReadsNames d (x ∷ xs) ts rest = (m : List Mark) × (ts ≡ inside (Identifier x) d ∷ m) × ReadsMoreNames d xs m rest

-- ---- declarations of constants and variables

-- what a declaration declares
pub data Declares : Type 0 where
  -- constants have values, and may have a type
  of_constants : Declares
  -- variables have a type or values
  of_variables : Declares

abbrev pub IsGiven : Declares → Option Ex → Exs → Type 0
IsGiven of_constants t none = ⊥
IsGiven of_constants t (some e es) = Unit {0}
IsGiven of_variables None none = ⊥
IsGiven of_variables None (some e es) = Unit {0}
IsGiven of_variables (Some t) es = Unit {0}

abbrev pub ReadsOptionalType : ℕ → Option Ex → List Mark → List Mark → Type 0
ReadsOptionalType d None ts rest = ts ≡ rest
ReadsOptionalType d (Some t) ts rest = ReadsType true d t ts rest

-- the values, after a `=`
abbrev pub ReadsInitial : ℕ → Exs → List Mark → List Mark → Type 0
ReadsInitial d none ts rest = ts ≡ rest
ReadsInitial d (some e es) ts rest = (pos : Pos) × (m : List Mark) × (ts ≡ inside (Assign pos) d ∷ m) × ReadsExs true d (some e es) m rest

abbrev pub ReadsValueSpec : Declares → ℕ → ValueSpec → List Mark → List Mark → Type 0
ReadsValueSpec k d s ts rest = (m n : List Mark) × ReadsNames d s.names ts m × ReadsOptionalType d s.type_expr m n × ReadsInitial d s.values n rest × IsGiven k s.type_expr s.values

-- One of some kind, or any number of them in parentheses, each with a semicolon after it; the last one may leave it out.
module _ {A : Type 0} (Reads : ℕ → A → List Mark → List Mark → Type 0) where
  -- from after the opening parenthesis to after the closing one
  pub data AreGrouped : ℕ → List A → List Mark → List Mark → Type 0 where
    group_ends : {d : ℕ} {rest : List Mark} → AreGrouped d [] (inside RightParen d ∷ rest) rest
    last_of_group : {d : ℕ} {a : A} {ts rest : List Mark} → Reads (suc d) a ts (inside RightParen d ∷ rest) → AreGrouped d (a ∷ []) ts rest
    next_of_group : {d : ℕ} {a : A} {others : List A} {ts m rest : List Mark} → Reads (suc d) a ts (inside Semicolon (suc d) ∷ m) → AreGrouped d others m rest → AreGrouped d (a ∷ others) ts rest

  pub data IsGroup : ℕ → List A → List Mark → List Mark → Type 0 where
    alone : {d : ℕ} {a : A} {ts rest : List Mark} → Reads d a ts rest → IsGroup d (a ∷ []) ts rest
    grouped : {d : ℕ} {all_of : List A} {pos : Pos} {m rest : List Mark} → AreGrouped d all_of m rest → IsGroup d all_of (inside (LeftParen pos) d ∷ m) rest

-- ---- simple statements

-- with `false` a literal that begins with a name stands in parentheses
abbrev pub ReadsSimple : Bool → ℕ → Simple → List Mark → List Mark → Type 0
ReadsSimple l d (express e) ts rest = ReadsValue l d e ts rest
ReadsSimple l d (assign ls pos es) ts rest = (m : List Mark) × ReadsExs l d ls ts (inside (Assign pos) d ∷ m) × ReadsExs l d es m rest
ReadsSimple l d (update ls pos op es) ts rest = (m : List Mark) × ReadsExs l d ls ts (inside (Update pos op) d ∷ m) × ReadsExs l d es m rest
ReadsSimple l d (define xs pos es) ts rest = (m : List Mark) × ReadsNames d xs ts (inside (Define pos) d ∷ m) × ReadsExs l d es m rest
ReadsSimple l d (increment e pos) ts rest = ReadsValue l d e ts (inside (Increment pos) d ∷ rest)
ReadsSimple l d (decrement e pos) ts rest = ReadsValue l d e ts (inside (Decrement pos) d ∷ rest)

-- a post statement declares nothing
abbrev pub IsPost : Simple → Type 0
IsPost (define xs pos es) = ⊥
IsPost _ = Unit {0}
