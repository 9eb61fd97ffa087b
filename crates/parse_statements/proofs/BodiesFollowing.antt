-- What may follow in each state of the parser of the body of a function, where the relation K says what may follow its closing brace.
use Rattle.std.proofs.Common.{◌≡◌, ℕ, suc, true, false, List, [], ◌∷◌, ◌⊎◌, Option, Some, None}
use Rattle.base.specs.declared.pos.Pos.{Pos}
use Rattle.syntax.specs.Expressions.{Ex, Exs, none}
use Rattle.syntax.specs.Statements.{Simple, express, ValueSpec, Guard, Targets, Clause, while_true, counting, ranging, var_stmt, simple, block, for_stmt, return_stmt, Stms, nil, Els, else_block}
use Rattle.syntax.specs.Lists.{joined, one}
use Rattle.parse_expressions.specs.declared.terminal.Terminal.TheVariants.{Else, Semicolon, LeftBrace, RightBrace}
use Rattle.parse_expressions.specs.Grammar.{Mark, inside}
use Rattle.parse_expressions.proofs.Following as expression
use Rattle.parse_simple_statements.specs.Grammar.{of_variables}
use Rattle.parse_statements.specs.Grammar.{ReadsOptionalValue, ReadsPost, ReadsGuard, ReadsClause, IsBody, IsElse}
use Rattle.parse_statements.specs.Outer.{Branch, Outer, in_block, in_loop, in_then, in_else, chain_depth, brace_depth, whole_if, Blocks, statement_depth, with_statement, opened_if, opened_for}
use Rattle.parse_statements.specs.Bodies.{Spot, in_body, in_if, in_for, in_post, State, at_statement, in_var, in_simple, at_return, in_return, at_if, in_condition, at_for, at_second, in_second, at_post, in_range, at_then, at_else, at_stop, Progress, fails, goes, ends, context_of, value_context, header_context}
use Rattle.parse_simple_statements.proofs.Marks.{Next, NextAt}
use Rattle.parse_simple_statements.proofs.ValueLists.{OneValue, Values, MoreValues}
use Rattle.parse_simple_statements.proofs.ValueSpecsFollowing as value_specs
use Rattle.parse_simple_statements.proofs.SimplesFollowing as simples

-- ---- what may follow in the blocks that are open

-- what may follow a statement, up to the end of its block
pub data Tail : ℕ → Stms → Pos → List Mark → List Mark → Type 0 where
  brace : {d : ℕ} {end : Pos} {rest : List Mark} → Tail d nil end (inside (RightBrace end) d ∷ rest) rest
  semi : {d : ℕ} {ss : Stms} {end : Pos} {m rest : List Mark} → IsBody d ss end m rest → Tail d ss end (inside Semicolon (suc d) ∷ m) rest

-- a statement ends in a block inside of d brackets, whose statements so far are done; after the block Then
pub record StmEnds (d : ℕ) (done : Stms) (Then : Stms → Pos → List Mark → Type 0) (w : List Mark) : Type 0 where
  pub others : Stms
  pub end : Pos
  pub rest : List Mark
  pub reads : Tail d others end w rest
  pub follows : Then (joined done others) end rest

-- a statement may begin
pub record StmBegins (d : ℕ) (done : Stms) (Then : Stms → Pos → List Mark → Type 0) (w : List Mark) : Type 0 where
  pub others : Stms
  pub end : Pos
  pub rest : List Mark
  pub reads : IsBody d others end w rest
  pub follows : Then (joined done others) end rest

-- an `else` may follow
pub record ElseFollows (d : ℕ) (Then : Els → List Mark → Type 0) (w : List Mark) : Type 0 where
  pub whole : Els
  pub rest : List Mark
  pub reads : IsElse d whole w rest
  pub follows : Then whole rest

-- after the closing brace of the innermost block, whose statements are ss
abbrev pub Up : (Stms → Pos → List Mark → Type 0) → List Outer → Stms → Pos → List Mark → Type 0
Up K [] ss end w = K ss end w
Up K (in_block done ∷ os) ss end w = StmEnds (brace_depth os) (joined done (one (block ss))) (Up K os) w
Up K (in_loop done pos c ∷ os) ss end w = StmEnds (brace_depth os) (joined done (one (for_stmt pos c ss))) (Up K os) w
Up K (in_then done bs pos g ∷ os) ss end w = ElseFollows (chain_depth bs (suc (brace_depth os))) (λ e m. StmEnds (brace_depth os) (joined done (one (whole_if bs (record { pos = pos; guard = g; body = ss }) e))) (Up K os) m) w
Up K (in_else done bs b ∷ os) ss end w = StmEnds (brace_depth os) (joined done (one (whole_if bs b (else_block ss)))) (Up K os) w

-- after a statement
abbrev pub BehindStm : (Stms → Pos → List Mark → Type 0) → Blocks → List Mark → Type 0
BehindStm K b w = StmEnds (brace_depth b.outer) b.done (Up K b.outer) w

-- where a statement may begin
abbrev pub InBody : (Stms → Pos → List Mark → Type 0) → Blocks → List Mark → Type 0
InBody K b w = StmBegins (brace_depth b.outer) b.done (Up K b.outer) w

-- ---- headers

-- the body of an `if` that is the else of these branches, and what follows
abbrev pub OpensIf : (Stms → Pos → List Mark → Type 0) → Blocks → List Branch → Pos → Guard → List Mark → Type 0
OpensIf K b bs pos g w = NextAt LeftBrace (chain_depth bs (statement_depth b)) (λ q m. InBody K (opened_if b bs pos g) m) w

-- the body of a `for`
abbrev pub OpensFor : (Stms → Pos → List Mark → Type 0) → Blocks → Pos → Clause → List Mark → Type 0
OpensFor K b pos c w = NextAt LeftBrace (statement_depth b) (λ q m. InBody K (opened_for b pos c) m) w

-- after `if`
pub record BehindIf (K : Stms → Pos → List Mark → Type 0) (b : Blocks) (bs : List Branch) (pos : Pos) (w : List Mark) : Type 0 where
  pub guard : Guard
  pub rest : List Mark
  pub reads : ReadsGuard (chain_depth bs (statement_depth b)) guard w rest
  pub follows : OpensIf K b bs pos guard rest

-- after `for`
pub record BehindFor (K : Stms → Pos → List Mark → Type 0) (b : Blocks) (pos : Pos) (w : List Mark) : Type 0 where
  pub clause : Clause
  pub rest : List Mark
  pub reads : ReadsClause (statement_depth b) clause w rest
  pub follows : OpensFor K b pos clause rest

-- after the second semicolon of a `for`
pub record BehindSecond (K : Stms → Pos → List Mark → Type 0) (b : Blocks) (pos : Pos) (i : Option Simple) (c : Option Ex) (w : List Mark) : Type 0 where
  pub post : Option Simple
  pub rest : List Mark
  pub reads : ReadsPost (statement_depth b) post w rest
  pub follows : OpensFor K b pos (counting i c post) rest

-- after its first semicolon
pub record BehindFirst (K : Stms → Pos → List Mark → Type 0) (b : Blocks) (pos : Pos) (i : Option Simple) (w : List Mark) : Type 0 where
  pub condition : Option Ex
  pub rest : List Mark
  pub reads : ReadsOptionalValue (statement_depth b) condition w rest
  pub follows : Next Semicolon (statement_depth b) (BehindSecond K b pos i condition) rest

-- ---- simple statements

-- a simple statement that is a condition
abbrev pub IsCondition : (Ex → List Mark → Type 0) → Simple → List Mark → Type 0
IsCondition Then (express e) w = Then e w
IsCondition Then s w = ⊥

abbrev pub BehindSimple : (Stms → Pos → List Mark → Type 0) → Blocks → Spot → Simple → List Mark → Type 0
BehindSimple K b in_body s w = BehindStm K (with_statement b (simple s)) w
BehindSimple K b (in_if bs pos) s w = Next Semicolon (chain_depth bs (statement_depth b)) (λ m. OneValue false (chain_depth bs (statement_depth b)) (λ e n. OpensIf K b bs pos (record { init = Some s; condition = e }) n) m) w ⊎ IsCondition (λ e m. OpensIf K b bs pos (record { init = None; condition = e }) m) s w
BehindSimple K b (in_for pos) s w = Next Semicolon (statement_depth b) (BehindFirst K b pos (Some s)) w ⊎ IsCondition (λ e m. OpensFor K b pos (while_true e) m) s w
BehindSimple K b (in_post pos i c) s w = OpensFor K b pos (counting i c (Some s)) w

-- after a `range`
abbrev pub BehindRange : (Stms → Pos → List Mark → Type 0) → Blocks → Spot → Targets → Pos → List Mark → Type 0
BehindRange K b (in_for pos) vars at w = OneValue false (statement_depth b) (λ e m. OpensFor K b pos (ranging vars at e) m) w
BehindRange K b s vars at w = ⊥

-- ---- what may follow in each state

abbrev pub Declared : (Stms → Pos → List Mark → Type 0) → Blocks → Pos → List ValueSpec → List Mark → Type 0
Declared K b pos specs w = BehindStm K (with_statement b (var_stmt pos specs)) w

abbrev pub Returned : (Stms → Pos → List Mark → Type 0) → Blocks → Pos → Exs → List Mark → Type 0
Returned K b pos es w = BehindStm K (with_statement b (return_stmt pos es)) w

abbrev pub WholeIf : (Stms → Pos → List Mark → Type 0) → Blocks → List Branch → Branch → Els → List Mark → Type 0
WholeIf K b bs last e w = BehindStm K (with_statement b (whole_if bs last e)) w

abbrev pub Rest : (Stms → Pos → List Mark → Type 0) → State → List Mark → Type 0
Rest K (at_statement b) w = InBody K b w
Rest K (in_var b pos s) w = value_specs.Rest of_variables (statement_depth b) (Declared K b pos) s w
Rest K (in_simple b s p) w = simples.Rest (context_of b s) (BehindSimple K b s) (BehindRange K b s) p w
Rest K (at_return b pos) w = Returned K b pos none w ⊎ Values true (statement_depth b) (Returned K b pos) w
Rest K (in_return b pos es o) w = expression.Rest (value_context b) (MoreValues true (statement_depth b) (Returned K b pos) es) o w
Rest K (at_if b bs pos) w = BehindIf K b bs pos w
Rest K (in_condition b bs pos i o) w = expression.Rest (header_context (chain_depth bs (statement_depth b))) (λ e m. OpensIf K b bs pos (record { init = i; condition = e }) m) o w
Rest K (at_for b pos) w = BehindFor K b pos w
Rest K (at_second b pos i) w = BehindFirst K b pos i w
Rest K (in_second b pos i o) w = expression.Rest (header_context (statement_depth b)) (λ e m. Next Semicolon (statement_depth b) (BehindSecond K b pos i (Some e)) m) o w
Rest K (at_post b pos i c) w = BehindSecond K b pos i c w
Rest K (in_range b pos vars at o) w = expression.Rest (header_context (statement_depth b)) (λ e m. OpensFor K b pos (ranging vars at e) m) o w
Rest K (at_then b bs last) w = ElseFollows (chain_depth bs (statement_depth b)) (WholeIf K b bs last) w
Rest K (at_else b bs last) w = ElseFollows (chain_depth bs (statement_depth b)) (WholeIf K b bs last) (inside Else (chain_depth bs (statement_depth b)) ∷ w)
Rest K (at_stop b) w = BehindStm K b w

-- ---- what each state keeps

abbrev pub Valid : State → Type 0
Valid (in_var b pos s) = value_specs.Valid (statement_depth b) s
Valid (in_simple b s p) = simples.Valid (context_of b s) p
Valid (in_return b pos es o) = expression.ValidOpen (value_context b) o
Valid (in_condition b bs pos i o) = expression.ValidOpen (header_context (chain_depth bs (statement_depth b))) o
Valid (in_second b pos i o) = expression.ValidOpen (header_context (statement_depth b)) o
Valid (in_range b pos vars at o) = expression.ValidOpen (header_context (statement_depth b)) o
Valid _ = Unit {0}

abbrev pub ValidNext : Progress → Type 0
ValidNext fails = Unit {0}
ValidNext (goes s) = Valid s
ValidNext (ends ss end) = Unit {0}

-- ---- what follows after a terminal

-- What may follow a terminal of nesting j, where the machine makes this progress at it; n is its nesting where the machine does not fail.
-- The closing brace of the body is taken.
abbrev pub After : (Stms → Pos → List Mark → Type 0) → Progress → ℕ → ℕ → List Mark → Type 0
After K fails n j w = ⊥
After K (goes s) n j w = (j ≡ n) × Rest K s w
After K (ends ss end) n j w = (j ≡ n) × K ss end w
