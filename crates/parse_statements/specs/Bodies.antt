-- The parser of the body of a function as a machine, from after its opening brace to its closing one.
use Rattle.std.specs.Prelude.{ℕ, suc, true, false, List, [], ◌∷◌, Option, Some, None}
use Rattle.base.specs.declared.pos.Pos.{Pos}
use Rattle.syntax.specs.Expressions.{Ex, Exs, none}
use Rattle.syntax.specs.Statements.{Simple, express, Targets, no_targets, forever, while_true, counting, ranging, var_stmt, simple, block, for_stmt, break_stmt, continue_stmt, return_stmt, Stms, no_else, else_block}
use Rattle.syntax.specs.Lists.{with_ex, joined, one}
use Rattle.parse_expressions.specs.declared.terminal.Terminal.{Terminal}
use Rattle.parse_expressions.specs.declared.terminal.Terminal.TheVariants.{Var, If, Else, For, Range, Break, Continue, Return, Comma, Semicolon, LeftBrace, RightBrace}
use Rattle.parse_expressions.specs.Machine.{Context as ExpressionContext, Open, at_operand}
use Rattle.parse_expressions.specs.Machine as expression
use Rattle.parse_simple_statements.specs.Grammar.{of_variables}
use Rattle.parse_simple_statements.specs.ValueSpecs.{Specs, at_first}
use Rattle.parse_simple_statements.specs.ValueSpecs as value_specs
use Rattle.parse_simple_statements.specs.Simples.{Context, Simples, beginning}
use Rattle.parse_simple_statements.specs.Simples as simples
use Rattle.parse_statements.specs.Outer.{Branch, Outer, in_block, in_loop, in_then, in_else, chain_depth, brace_depth, whole_if, Blocks, statement_depth, around, with_statement, within, opened_if, opened_for}

-- where a simple statement stands
pub data Spot : Type 0 where
  in_body : Spot
  -- in the header of an `if` that is the else of these branches
  in_if : List Branch → Pos → Spot
  in_for : Pos → Spot
  -- a post statement, after the init statement and the condition
  in_post : Pos → Option Simple → Option Ex → Spot

-- what was read, and what is wanted next
pub data State : Type 0 where
  at_statement : Blocks → State
  in_var : Blocks → Pos → Specs → State
  in_simple : Blocks → Spot → Simples → State
  -- after `return`, and in one of its values
  at_return : Blocks → Pos → State
  in_return : Blocks → Pos → Exs → Open → State
  -- after `if`, and in its condition after a semicolon
  at_if : Blocks → List Branch → Pos → State
  in_condition : Blocks → List Branch → Pos → Option Simple → Open → State
  -- after `for`, after its first semicolon, in the condition after it, and after the second semicolon
  at_for : Blocks → Pos → State
  at_second : Blocks → Pos → Option Simple → State
  in_second : Blocks → Pos → Option Simple → Open → State
  at_post : Blocks → Pos → Option Simple → Option Ex → State
  -- in the operand of a `range`
  in_range : Blocks → Pos → Targets → Pos → Open → State
  -- after the first body of an `if` that is the else of these branches
  at_then : Blocks → List Branch → Branch → State
  -- after its `else`
  at_else : Blocks → List Branch → Branch → State
  -- after a statement
  at_stop : Blocks → State

-- what the next terminal does; `ends` is for the closing brace of the body, with its position
pub data Progress : Type 0 where
  fails : Progress
  goes : State → Progress
  ends : Stms → Pos → Progress

-- ---- the end of a statement and of a block

-- after the closing brace of the block of an outer construct, whose statements are ss
abbrev pub behind_block : List Outer → Outer → Stms → State
behind_block os (in_block done) ss = at_stop (around os (joined done (one (block ss))))
behind_block os (in_loop done pos c) ss = at_stop (around os (joined done (one (for_stmt pos c ss))))
behind_block os (in_then done bs pos g) ss = at_then (around os done) bs (record { pos = pos; guard = g; body = ss })
behind_block os (in_else done bs b) ss = at_stop (around os (joined done (one (whole_if bs b (else_block ss)))))

-- the closing brace of the innermost block
abbrev pub up : List Outer → Stms → Pos → Progress
up [] ss end = ends ss end
up (o ∷ os) ss end = goes (behind_block os o ss)

abbrev pub stop : Blocks → Terminal → Progress
stop b Semicolon = goes (at_statement b)
stop b (RightBrace end) = up b.outer b.done end
stop b t = fails

-- ---- simple statements

abbrev pub spot_depth : Blocks → Spot → ℕ
spot_depth b (in_if bs pos) = chain_depth bs (statement_depth b)
spot_depth b s = statement_depth b

abbrev pub context_of : Blocks → Spot → Context
context_of b in_body = record { depth = statement_depth b; literals = true; defines = true; ranges = false }
context_of b (in_if bs pos) = record { depth = chain_depth bs (statement_depth b); literals = false; defines = true; ranges = false }
context_of b (in_for pos) = record { depth = statement_depth b; literals = false; defines = true; ranges = true }
context_of b (in_post pos i c) = record { depth = statement_depth b; literals = false; defines = false; ranges = false }

-- a value in a header, inside of d brackets, and a value of a statement
abbrev pub header_context : ℕ → ExpressionContext
header_context d = record { depth = d; literals = false; types = false }

abbrev pub value_context : Blocks → ExpressionContext
value_context b = record { depth = statement_depth b; literals = true; types = false }

-- a terminal after a whole simple statement
abbrev pub behind_simple : Blocks → Spot → Simple → Terminal → Progress
behind_simple b in_body s t = stop (with_statement b (simple s)) t
behind_simple b (in_if bs pos) s Semicolon = goes (in_condition b bs pos (Some s) (at_operand []))
behind_simple b (in_if bs pos) (express e) (LeftBrace q) = goes (at_statement (opened_if b bs pos (record { init = None; condition = e })))
behind_simple b (in_if bs pos) s t = fails
behind_simple b (in_for pos) s Semicolon = goes (at_second b pos (Some s))
behind_simple b (in_for pos) (express e) (LeftBrace q) = goes (at_statement (opened_for b pos (while_true e)))
behind_simple b (in_for pos) s t = fails
behind_simple b (in_post pos i c) s (LeftBrace q) = goes (at_statement (opened_for b pos (counting i c (Some s))))
behind_simple b (in_post pos i c) s t = fails

-- a `range` in the header of a `for`
abbrev pub ranges_at : Blocks → Spot → Targets → Pos → Progress
ranges_at b (in_for pos) vars range_pos = goes (in_range b pos vars range_pos (at_operand []))
ranges_at b s vars range_pos = fails

abbrev pub after_simple : Blocks → Spot → Terminal → simples.Progress → Progress
after_simple b s t simples.fails = fails
after_simple b s t (simples.goes p) = goes (in_simple b s p)
after_simple b s t (simples.ends x) = behind_simple b s x t
after_simple b s t (simples.ranges vars range_pos) = ranges_at b s vars range_pos

abbrev pub simple_begins : Blocks → Spot → Terminal → Progress
simple_begins b s t = after_simple b s t (simples.step (context_of b s) beginning t)

-- ---- declarations, values and headers

abbrev pub after_var : Blocks → Pos → Terminal → value_specs.Progress → Progress
after_var b pos t value_specs.fails = fails
after_var b pos t (value_specs.goes s) = goes (in_var b pos s)
after_var b pos t (value_specs.ends specs) = stop (with_statement b (var_stmt pos specs)) t

abbrev pub behind_returned : Blocks → Pos → Exs → Terminal → Progress
behind_returned b pos es Comma = goes (in_return b pos es (at_operand []))
behind_returned b pos es t = stop (with_statement b (return_stmt pos es)) t

abbrev pub after_returned : Blocks → Pos → Exs → Terminal → expression.Progress → Progress
after_returned b pos es t expression.fails = fails
after_returned b pos es t (expression.goes o) = goes (in_return b pos es o)
after_returned b pos es t (expression.ends e) = behind_returned b pos (with_ex es e) t

abbrev pub behind_condition : Blocks → List Branch → Pos → Option Simple → Ex → Terminal → Progress
behind_condition b bs pos i e (LeftBrace q) = goes (at_statement (opened_if b bs pos (record { init = i; condition = e })))
behind_condition b bs pos i e t = fails

abbrev pub after_condition : Blocks → List Branch → Pos → Option Simple → Terminal → expression.Progress → Progress
after_condition b bs pos i t expression.fails = fails
after_condition b bs pos i t (expression.goes o) = goes (in_condition b bs pos i o)
after_condition b bs pos i t (expression.ends e) = behind_condition b bs pos i e t

abbrev pub behind_second : Blocks → Pos → Option Simple → Ex → Terminal → Progress
behind_second b pos i e Semicolon = goes (at_post b pos i (Some e))
behind_second b pos i e t = fails

abbrev pub after_second : Blocks → Pos → Option Simple → Terminal → expression.Progress → Progress
after_second b pos i t expression.fails = fails
after_second b pos i t (expression.goes o) = goes (in_second b pos i o)
after_second b pos i t (expression.ends e) = behind_second b pos i e t

abbrev pub behind_range : Blocks → Pos → Targets → Pos → Ex → Terminal → Progress
behind_range b pos vars range_pos e (LeftBrace q) = goes (at_statement (opened_for b pos (ranging vars range_pos e)))
behind_range b pos vars range_pos e t = fails

abbrev pub after_range : Blocks → Pos → Targets → Pos → Terminal → expression.Progress → Progress
after_range b pos vars range_pos t expression.fails = fails
after_range b pos vars range_pos t (expression.goes o) = goes (in_range b pos vars range_pos o)
after_range b pos vars range_pos t (expression.ends e) = behind_range b pos vars range_pos e t

-- ---- one terminal more

abbrev pub step : State → Terminal → Progress
step (at_statement b) (Var pos) = goes (in_var b pos at_first)
step (at_statement b) (If pos) = goes (at_if b [] pos)
step (at_statement b) (For pos) = goes (at_for b pos)
step (at_statement b) (Return pos) = goes (at_return b pos)
step (at_statement b) (Break pos) = goes (at_stop (with_statement b (break_stmt pos)))
step (at_statement b) (Continue pos) = goes (at_stop (with_statement b (continue_stmt pos)))
step (at_statement b) (LeftBrace q) = goes (at_statement (within b (in_block b.done)))
step (at_statement b) Semicolon = stop b Semicolon
step (at_statement b) (RightBrace end) = stop b (RightBrace end)
step (at_statement b) t = simple_begins b in_body t
step (in_var b pos s) t = after_var b pos t (value_specs.step of_variables (statement_depth b) s t)
step (in_simple b s p) t = after_simple b s t (simples.step (context_of b s) p t)
step (at_return b pos) Semicolon = stop (with_statement b (return_stmt pos none)) Semicolon
step (at_return b pos) (RightBrace end) = stop (with_statement b (return_stmt pos none)) (RightBrace end)
step (at_return b pos) t = after_returned b pos none t (expression.step (value_context b) (at_operand []) t)
step (in_return b pos es o) t = after_returned b pos es t (expression.step (value_context b) o t)
step (at_if b bs pos) Semicolon = goes (in_condition b bs pos None (at_operand []))
step (at_if b bs pos) t = simple_begins b (in_if bs pos) t
step (in_condition b bs pos i o) t = after_condition b bs pos i t (expression.step (header_context (chain_depth bs (statement_depth b))) o t)
step (at_for b pos) (LeftBrace q) = goes (at_statement (opened_for b pos forever))
step (at_for b pos) Semicolon = goes (at_second b pos None)
step (at_for b pos) (Range range_pos) = goes (in_range b pos no_targets range_pos (at_operand []))
step (at_for b pos) t = simple_begins b (in_for pos) t
step (at_second b pos i) Semicolon = goes (at_post b pos i None)
step (at_second b pos i) t = after_second b pos i t (expression.step (header_context (statement_depth b)) (at_operand []) t)
step (in_second b pos i o) t = after_second b pos i t (expression.step (header_context (statement_depth b)) o t)
step (at_post b pos i c) (LeftBrace q) = goes (at_statement (opened_for b pos (counting i c None)))
step (at_post b pos i c) t = simple_begins b (in_post pos i c) t
step (in_range b pos vars range_pos o) t = after_range b pos vars range_pos t (expression.step (header_context (statement_depth b)) o t)
step (at_then b bs last) Else = goes (at_else b bs last)
step (at_then b bs last) t = stop (with_statement b (whole_if bs last no_else)) t
step (at_else b bs last) (LeftBrace q) = goes (at_statement (within b (in_else b.done bs last)))
step (at_else b bs last) (If pos) = goes (at_if b (last ∷ bs) pos)
step (at_else b bs last) t = fails
step (at_stop b) t = stop b t

-- ---- the nesting of the next terminal, where the machine does not fail

abbrev pub nesting_at_stop : Blocks → Terminal → ℕ
nesting_at_stop b (RightBrace end) = brace_depth b.outer
nesting_at_stop b t = statement_depth b

abbrev pub nesting_after : Blocks → ℕ → ExpressionContext → Open → Terminal → expression.Progress → ℕ
nesting_after b d context o t (expression.goes p) = expression.nesting context o t
nesting_after b d context o t p = d

-- after a simple statement: in a body the statement ends
abbrev pub nesting_behind : Blocks → Spot → Terminal → ℕ
nesting_behind b in_body t = nesting_at_stop b t
nesting_behind b s t = spot_depth b s

abbrev pub nesting_simple : Blocks → Spot → Simples → Terminal → simples.Progress → ℕ
nesting_simple b s p t (simples.ends x) = nesting_behind b s t
nesting_simple b s p t q = simples.nesting (context_of b s) p t

abbrev pub nesting_var : Blocks → Specs → Terminal → value_specs.Progress → ℕ
nesting_var b s t (value_specs.goes p) = value_specs.nesting (statement_depth b) s t
nesting_var b s t p = nesting_at_stop b t

abbrev pub nesting : State → Terminal → ℕ
nesting (at_statement b) t = nesting_at_stop b t
nesting (in_var b pos s) t = nesting_var b s t (value_specs.step of_variables (statement_depth b) s t)
nesting (in_simple b s p) t = nesting_simple b s p t (simples.step (context_of b s) p t)
nesting (at_return b pos) t = nesting_at_stop b t
nesting (in_return b pos es o) t = nesting_after b (nesting_at_stop b t) (value_context b) o t (expression.step (value_context b) o t)
nesting (at_if b bs pos) t = chain_depth bs (statement_depth b)
nesting (in_condition b bs pos i o) t = let context = header_context (chain_depth bs (statement_depth b)) in nesting_after b context.depth context o t (expression.step context o t)
nesting (at_for b pos) t = statement_depth b
nesting (at_second b pos i) t = statement_depth b
nesting (in_second b pos i o) t = let context = header_context (statement_depth b) in nesting_after b context.depth context o t (expression.step context o t)
nesting (at_post b pos i c) t = statement_depth b
nesting (in_range b pos vars range_pos o) t = let context = header_context (statement_depth b) in nesting_after b context.depth context o t (expression.step context o t)
nesting (at_then b bs last) Else = chain_depth bs (statement_depth b)
nesting (at_then b bs last) t = nesting_at_stop b t
nesting (at_else b bs last) (If pos) = suc (chain_depth bs (statement_depth b))
nesting (at_else b bs last) t = chain_depth bs (statement_depth b)
nesting (at_stop b) t = nesting_at_stop b t
