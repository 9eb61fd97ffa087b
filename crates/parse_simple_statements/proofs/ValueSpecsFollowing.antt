-- What may follow in each state of the parser of declarations of constants and variables, where the relation K says what may follow a
-- whole declaration.
use Rattle.std.proofs.Common.{◌≡◌, ℕ, suc, true, List, [], ◌∷◌, ◌++◌, ◌⊎◌, Option, Some}
use Rattle.syntax.specs.declared.expression.Name.{Name}
use Rattle.syntax.specs.Expressions.{Ex, Exs}
use Rattle.syntax.specs.Statements.{ValueSpec}
use Rattle.parse_expressions.specs.declared.terminal.Terminal.{Terminal}
use Rattle.parse_expressions.specs.declared.terminal.Terminal.TheVariants.{Operator, Assign, Comma, Semicolon, Period, LeftParen, RightParen, LeftBracket, LeftBrace}
use Rattle.parse_expressions.specs.Grammar.{Mark, inside}
use Rattle.parse_expressions.proofs.Following as expression
use Rattle.parse_simple_statements.specs.Grammar.{Declares, IsGiven, ReadsOptionalType, ReadsInitial, ReadsValueSpec, AreGrouped, IsGroup}
use Rattle.parse_simple_statements.specs.ValueSpecs.{Spot, alone_here, in_group, Specs, at_first, at_spec, at_next_name, at_names, in_type, in_value, at_group_end, Progress, fails, goes, ends, spot_depth, type_context, value_context}
use Rattle.parse_simple_statements.proofs.Marks.{Next}
use Rattle.parse_simple_statements.proofs.NameLists.{NamesThen, NameWanted}
use Rattle.parse_simple_statements.proofs.ValueLists.{MoreValues}

abbrev pub spec : List Name → Option Ex → Exs → ValueSpec
spec xs o es = record { names = xs; type_expr = o; values = es }

-- ---- what may follow

-- a whole declaration
pub record Declared (k : Declares) (d : ℕ) (K : List ValueSpec → List Mark → Type 0) (w : List Mark) : Type 0 where
  pub whole : List ValueSpec
  pub rest : List Mark
  pub reads : IsGroup (ReadsValueSpec k) d whole w rest
  pub follows : K whole rest

-- in parentheses, after these
pub record Grouped (k : Declares) (d : ℕ) (K : List ValueSpec → List Mark → Type 0) (done : List ValueSpec) (w : List Mark) : Type 0 where
  pub others : List ValueSpec
  pub rest : List Mark
  pub reads : AreGrouped (ReadsValueSpec k) d others w rest
  pub follows : K (done ++ others) rest

-- after a whole one of them
abbrev pub BehindSpec : Declares → ℕ → (List ValueSpec → List Mark → Type 0) → Spot → ValueSpec → List Mark → Type 0
BehindSpec k d K alone_here s m = K (s ∷ []) m
BehindSpec k d K (in_group done) s m = Next RightParen d (K (done ++ s ∷ [])) m ⊎ Next Semicolon (suc d) (Grouped k d K (done ++ s ∷ [])) m

-- after its names
pub record BehindNames (k : Declares) (d : ℕ) (K : List ValueSpec → List Mark → Type 0) (s : Spot) (xs : List Name) (w : List Mark) : Type 0 where
  pub type_expr : Option Ex
  pub values : Exs
  pub between : List Mark
  pub rest : List Mark
  pub typed : ReadsOptionalType (spot_depth d s) type_expr w between
  pub reads : ReadsInitial (spot_depth d s) values between rest
  pub given : IsGiven k type_expr values
  pub follows : BehindSpec k d K s (spec xs type_expr values) rest

-- after its type
pub record BehindType (k : Declares) (d : ℕ) (K : List ValueSpec → List Mark → Type 0) (s : Spot) (xs : List Name) (e : Ex) (w : List Mark) : Type 0 where
  pub values : Exs
  pub rest : List Mark
  pub reads : ReadsInitial (spot_depth d s) values w rest
  pub given : IsGiven k (Some e) values
  pub follows : BehindSpec k d K s (spec xs (Some e) values) rest

-- after one of its values, after the values es
abbrev pub BehindValue : Declares → ℕ → (List ValueSpec → List Mark → Type 0) → Spot → List Name → Option Ex → Exs → Ex → List Mark → Type 0
BehindValue k d K s xs o es e w = MoreValues true (spot_depth d s) (λ all_of m. BehindSpec k d K s (spec xs o all_of) m) es e w

abbrev pub Rest : Declares → ℕ → (List ValueSpec → List Mark → Type 0) → Specs → List Mark → Type 0
Rest k d K at_first w = Declared k d K w
Rest k d K (at_spec done) w = Grouped k d K done w
Rest k d K (at_next_name s xs) w = NameWanted (BehindNames k d K s) (spot_depth d s) xs w
Rest k d K (at_names s xs) w = NamesThen (BehindNames k d K s) (spot_depth d s) xs w
Rest k d K (in_type s xs o) w = expression.Rest (type_context d s) (BehindType k d K s xs) o w
Rest k d K (in_value s xs o es e) w = expression.Rest (value_context d s) (BehindValue k d K s xs o es) e w
Rest k d K (at_group_end done) w = K done w

-- ---- what each state keeps

abbrev pub Valid : ℕ → Specs → Type 0
Valid d (in_type s xs o) = expression.ValidOpen (type_context d s) o
Valid d (in_value s xs o es e) = expression.ValidOpen (value_context d s) e
Valid d _ = Unit {0}

abbrev pub ValidNext : ℕ → Progress → Type 0
ValidNext d fails = Unit {0}
ValidNext d (goes s) = Valid d s
ValidNext d (ends done) = Unit {0}

-- ---- a terminal, and what follows it

-- a terminal that goes on with a declaration that may be whole
abbrev pub GoesOn : Terminal → Type 0
GoesOn (Operator pos op) = Unit {0}
GoesOn (LeftParen pos) = Unit {0}
GoesOn (Period pos) = Unit {0}
GoesOn (LeftBracket pos) = Unit {0}
GoesOn (LeftBrace pos) = Unit {0}
GoesOn (Assign pos) = Unit {0}
GoesOn Comma = Unit {0}
GoesOn _ = ⊥

-- no such terminal follows a whole declaration
pub record Apart (K : List ValueSpec → List Mark → Type 0) : Type 0 where
  pub never : (done : List ValueSpec) (t : Terminal) (j : ℕ) (w : List Mark) → GoesOn t → K done (inside t j ∷ w) → ⊥

-- What may follow a terminal t of nesting j, where the machine makes this progress at it; n is the nesting where it goes on. Where the
-- declaration ended before t, t is not taken.
abbrev pub After : Declares → ℕ → (List ValueSpec → List Mark → Type 0) → Progress → ℕ → Terminal → ℕ → List Mark → Type 0
After k d K fails n t j w = ⊥
After k d K (goes s) n t j w = (j ≡ n) × Rest k d K s w
After k d K (ends done) n t j w = K done (inside t j ∷ w)
