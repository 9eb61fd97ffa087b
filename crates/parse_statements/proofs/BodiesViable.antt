-- What each state of the parser of a body keeps, and that some text follows in each of them.
use Rattle.std.proofs.Common.{◌≡◌, ℕ, true, false, List, [], ◌∷◌, inl, Option, Some, None, refl, subst}
use Rattle.base.specs.declared.pos.Pos.{Pos}
use Rattle.syntax.specs.Expressions.{Ex, Exs, none}
use Rattle.syntax.specs.Statements.{Simple, express, Guard, Targets, Clause, forever, counting, ranging, var_stmt, simple, block, for_stmt, return_stmt, Stms, nil, no_else, else_block}
use Rattle.syntax.specs.Lists.{with_ex, joined, one}
use Rattle.parse_expressions.specs.declared.terminal.Terminal.{Terminal}
use Rattle.parse_expressions.specs.declared.terminal.Terminal.TheVariants.{Number, Var, If, Else, For, Range, Break, Continue, Return, Comma, Semicolon, LeftBrace, RightBrace}
use Rattle.parse_expressions.specs.Grammar.{Mark, inside}
use Rattle.parse_expressions.specs.Machine as expression
use Rattle.parse_expressions.specs.Machine.{at_operand}
use Rattle.parse_expressions.proofs.Following as following
use Rattle.parse_simple_statements.specs.Grammar.{of_variables}
use Rattle.parse_statements.specs.Grammar.{absent, otherwise, close}
use Rattle.parse_simple_statements.specs.ValueSpecs as value_specs
use Rattle.parse_simple_statements.specs.Simples as simples
use Rattle.parse_simple_statements.specs.Simples.{beginning}
use Rattle.parse_statements.specs.Outer.{Branch, Outer, in_block, in_loop, in_then, in_else, chain_depth, brace_depth, whole_if, Blocks, statement_depth, with_statement, opened_if, opened_for}
use Rattle.parse_statements.specs.Bodies.{Spot, in_body, in_if, in_for, in_post, State, at_statement, in_var, in_simple, at_return, in_return, at_if, in_condition, at_for, at_second, in_second, at_post, in_range, at_then, at_else, at_stop, goes, context_of, value_context, header_context, up, stop, behind_simple, ranges_at, after_simple, simple_begins, after_var, behind_returned, after_returned, behind_condition, after_condition, behind_second, after_second, behind_range, after_range, step}
use Rattle.parse_expressions.proofs.Viable.{valid_next as open_valid, viable as open_viable}
use Rattle.parse_simple_statements.proofs.Shortest.{origin, zero_at_origin}
use Rattle.parse_simple_statements.proofs.ValueLists.{value_valid}
use Rattle.parse_simple_statements.proofs.ValueSpecsFollowing as specs_following
use Rattle.parse_simple_statements.proofs.ValueSpecsViable as specs_viable
use Rattle.parse_simple_statements.proofs.SimplesFollowing as simples_following
use Rattle.parse_simple_statements.proofs.SimplesBegins.{begins_valid}
use Rattle.parse_simple_statements.proofs.SimplesViable as simples_viable
use Rattle.parse_statements.proofs.BodiesFollowing.{brace, Up, BehindStm, InBody, OpensIf, OpensFor, BehindSimple, BehindRange, Declared, Rest, Valid, ValidNext}

-- ---- what each state keeps

up_valid : (os : List Outer) (ss : Stms) (end : Pos) → ValidNext (up os ss end)
up_valid [] ss end = tt
up_valid (in_block done ∷ os) ss end = tt
up_valid (in_loop done pos c ∷ os) ss end = tt
up_valid (in_then done bs pos g ∷ os) ss end = tt
up_valid (in_else done bs b ∷ os) ss end = tt

stop_valid : (b : Blocks) (t : Terminal) → ValidNext (stop b t)
stop_valid b Semicolon = tt
stop_valid b (RightBrace end) = up_valid b.outer b.done end
stop_valid b t = tt

header_valid : (d : ℕ) → following.ValidOpen (header_context d) (at_operand [])
header_valid d = value_valid false d

if_valid : (b : Blocks) (bs : List Branch) (pos : Pos) (x : Simple) (t : Terminal) → ValidNext (behind_simple b (in_if bs pos) x t)
if_valid b bs pos x Semicolon = header_valid (chain_depth bs (statement_depth b))
if_valid b bs pos (express e) (LeftBrace q) = tt
if_valid b bs pos x t = tt

for_valid : (b : Blocks) (pos : Pos) (x : Simple) (t : Terminal) → ValidNext (behind_simple b (in_for pos) x t)
for_valid b pos x Semicolon = tt
for_valid b pos (express e) (LeftBrace q) = tt
for_valid b pos x t = tt

post_valid : (b : Blocks) (pos : Pos) (i : Option Simple) (c : Option Ex) (x : Simple) (t : Terminal) → ValidNext (behind_simple b (in_post pos i c) x t)
post_valid b pos i c x (LeftBrace q) = tt
post_valid b pos i c x t = tt

behind_simple_valid : (b : Blocks) (s : Spot) (x : Simple) (t : Terminal) → ValidNext (behind_simple b s x t)
behind_simple_valid b in_body x t = stop_valid (with_statement b (simple x)) t
behind_simple_valid b (in_if bs pos) x t = if_valid b bs pos x t
behind_simple_valid b (in_for pos) x t = for_valid b pos x t
behind_simple_valid b (in_post pos i c) x t = post_valid b pos i c x t

ranges_valid : (b : Blocks) (s : Spot) (vars : Targets) (at : Pos) → ValidNext (ranges_at b s vars at)
ranges_valid b in_body vars at = tt
ranges_valid b (in_if bs pos) vars at = tt
ranges_valid b (in_for pos) vars at = header_valid (statement_depth b)
ranges_valid b (in_post pos i c) vars at = tt

after_simple_valid : (b : Blocks) (s : Spot) (t : Terminal) (q : simples.Progress) → simples_following.ValidNext (context_of b s) q → ValidNext (after_simple b s t q)
after_simple_valid b s t simples.fails valid = tt
after_simple_valid b s t (simples.goes p) valid = valid
after_simple_valid b s t (simples.ends x) valid = behind_simple_valid b s x t
after_simple_valid b s t (simples.ranges vars at) valid = ranges_valid b s vars at

simple_begins_valid : (b : Blocks) (s : Spot) (t : Terminal) → ValidNext (simple_begins b s t)
simple_begins_valid b s t = after_simple_valid b s t (simples.step (context_of b s) beginning t) (simples_viable.valid_next (context_of b s) beginning t (begins_valid (context_of b s)))

after_var_valid : (b : Blocks) (pos : Pos) (t : Terminal) (q : value_specs.Progress) → specs_following.ValidNext (statement_depth b) q → ValidNext (after_var b pos t q)
after_var_valid b pos t value_specs.fails valid = tt
after_var_valid b pos t (value_specs.goes s) valid = valid
after_var_valid b pos t (value_specs.ends done) valid = stop_valid (with_statement b (var_stmt pos done)) t

behind_returned_valid : (b : Blocks) (pos : Pos) (es : Exs) (t : Terminal) → ValidNext (behind_returned b pos es t)
behind_returned_valid b pos es Comma = value_valid true (statement_depth b)
behind_returned_valid b pos es t = stop_valid (with_statement b (return_stmt pos es)) t

after_returned_valid : (b : Blocks) (pos : Pos) (es : Exs) (t : Terminal) (q : expression.Progress) → following.ValidNext (value_context b) q → ValidNext (after_returned b pos es t q)
after_returned_valid b pos es t expression.fails valid = tt
after_returned_valid b pos es t (expression.goes o) valid = valid
after_returned_valid b pos es t (expression.ends e) valid = behind_returned_valid b pos (with_ex es e) t

behind_condition_valid : (b : Blocks) (bs : List Branch) (pos : Pos) (i : Option Simple) (e : Ex) (t : Terminal) → ValidNext (behind_condition b bs pos i e t)
behind_condition_valid b bs pos i e (LeftBrace q) = tt
behind_condition_valid b bs pos i e t = tt

after_condition_valid : (b : Blocks) (bs : List Branch) (pos : Pos) (i : Option Simple) (t : Terminal) (q : expression.Progress) → following.ValidNext (header_context (chain_depth bs (statement_depth b))) q → ValidNext (after_condition b bs pos i t q)
after_condition_valid b bs pos i t expression.fails valid = tt
after_condition_valid b bs pos i t (expression.goes o) valid = valid
after_condition_valid b bs pos i t (expression.ends e) valid = behind_condition_valid b bs pos i e t

behind_second_valid : (b : Blocks) (pos : Pos) (i : Option Simple) (e : Ex) (t : Terminal) → ValidNext (behind_second b pos i e t)
behind_second_valid b pos i e Semicolon = tt
behind_second_valid b pos i e t = tt

after_second_valid : (b : Blocks) (pos : Pos) (i : Option Simple) (t : Terminal) (q : expression.Progress) → following.ValidNext (header_context (statement_depth b)) q → ValidNext (after_second b pos i t q)
after_second_valid b pos i t expression.fails valid = tt
after_second_valid b pos i t (expression.goes o) valid = valid
after_second_valid b pos i t (expression.ends e) valid = behind_second_valid b pos i e t

behind_range_valid : (b : Blocks) (pos : Pos) (vars : Targets) (at : Pos) (e : Ex) (t : Terminal) → ValidNext (behind_range b pos vars at e t)
behind_range_valid b pos vars at e (LeftBrace q) = tt
behind_range_valid b pos vars at e t = tt

after_range_valid : (b : Blocks) (pos : Pos) (vars : Targets) (at : Pos) (t : Terminal) (q : expression.Progress) → following.ValidNext (header_context (statement_depth b)) q → ValidNext (after_range b pos vars at t q)
after_range_valid b pos vars at t expression.fails valid = tt
after_range_valid b pos vars at t (expression.goes o) valid = valid
after_range_valid b pos vars at t (expression.ends e) valid = behind_range_valid b pos vars at e t

statement_valid : (b : Blocks) (t : Terminal) → ValidNext (step (at_statement b) t)
statement_valid b (Var q) = tt
statement_valid b (If q) = tt
statement_valid b (For q) = tt
statement_valid b (Return q) = tt
statement_valid b (Break q) = tt
statement_valid b (Continue q) = tt
statement_valid b (LeftBrace q) = tt
statement_valid b Semicolon = tt
statement_valid b (RightBrace q) = stop_valid b (RightBrace q)
statement_valid b t = simple_begins_valid b in_body t

return_valid : (b : Blocks) (pos : Pos) (t : Terminal) → ValidNext (step (at_return b pos) t)
return_valid b pos Semicolon = tt
return_valid b pos (RightBrace q) = stop_valid (with_statement b (return_stmt pos none)) (RightBrace q)
return_valid b pos t = after_returned_valid b pos none t (expression.step (value_context b) (at_operand []) t) (open_valid (value_context b) (at_operand []) t (value_valid true (statement_depth b)))

at_if_valid : (b : Blocks) (bs : List Branch) (pos : Pos) (t : Terminal) → ValidNext (step (at_if b bs pos) t)
at_if_valid b bs pos Semicolon = header_valid (chain_depth bs (statement_depth b))
at_if_valid b bs pos t = simple_begins_valid b (in_if bs pos) t

at_for_valid : (b : Blocks) (pos : Pos) (t : Terminal) → ValidNext (step (at_for b pos) t)
at_for_valid b pos (LeftBrace q) = tt
at_for_valid b pos Semicolon = tt
at_for_valid b pos (Range q) = header_valid (statement_depth b)
at_for_valid b pos t = simple_begins_valid b (in_for pos) t

at_second_valid : (b : Blocks) (pos : Pos) (i : Option Simple) (t : Terminal) → ValidNext (step (at_second b pos i) t)
at_second_valid b pos i Semicolon = tt
at_second_valid b pos i t = after_second_valid b pos i t (expression.step (header_context (statement_depth b)) (at_operand []) t) (open_valid (header_context (statement_depth b)) (at_operand []) t (header_valid (statement_depth b)))

at_post_valid : (b : Blocks) (pos : Pos) (i : Option Simple) (c : Option Ex) (t : Terminal) → ValidNext (step (at_post b pos i c) t)
at_post_valid b pos i c (LeftBrace q) = tt
at_post_valid b pos i c t = simple_begins_valid b (in_post pos i c) t

then_valid : (b : Blocks) (bs : List Branch) (last : Branch) (t : Terminal) → ValidNext (step (at_then b bs last) t)
then_valid b bs last Else = tt
then_valid b bs last t = stop_valid (with_statement b (whole_if bs last no_else)) t

else_valid : (b : Blocks) (bs : List Branch) (last : Branch) (t : Terminal) → ValidNext (step (at_else b bs last) t)
else_valid b bs last (LeftBrace q) = tt
else_valid b bs last (If q) = tt
else_valid b bs last t = tt

pub valid_next : (s : State) (t : Terminal) → Valid s → ValidNext (step s t)
valid_next (at_statement b) t valid = statement_valid b t
valid_next (in_var b pos s) t valid = after_var_valid b pos t (value_specs.step of_variables (statement_depth b) s t) (specs_viable.valid_next of_variables (statement_depth b) s t valid)
valid_next (in_simple b s p) t valid = after_simple_valid b s t (simples.step (context_of b s) p t) (simples_viable.valid_next (context_of b s) p t valid)
valid_next (at_return b pos) t valid = return_valid b pos t
valid_next (in_return b pos es o) t valid = after_returned_valid b pos es t (expression.step (value_context b) o t) (open_valid (value_context b) o t valid)
valid_next (at_if b bs pos) t valid = at_if_valid b bs pos t
valid_next (in_condition b bs pos i o) t valid = let context = header_context (chain_depth bs (statement_depth b)) in after_condition_valid b bs pos i t (expression.step context o t) (open_valid context o t valid)
valid_next (at_for b pos) t valid = at_for_valid b pos t
valid_next (at_second b pos i) t valid = at_second_valid b pos i t
valid_next (in_second b pos i o) t valid = after_second_valid b pos i t (expression.step (header_context (statement_depth b)) o t) (open_valid (header_context (statement_depth b)) o t valid)
valid_next (at_post b pos i c) t valid = at_post_valid b pos i c t
valid_next (in_range b pos vars at o) t valid = after_range_valid b pos vars at t (expression.step (header_context (statement_depth b)) o t) (open_valid (header_context (statement_depth b)) o t valid)
valid_next (at_then b bs last) t valid = then_valid b bs last t
valid_next (at_else b bs last) t valid = else_valid b bs last t
valid_next (at_stop b) t valid = stop_valid b t

pub valid_step : (s : State) (t : Terminal) (next : State) → Valid s → step s t ≡ goes next → Valid next
valid_step s t next valid is = subst ValidNext is (valid_next s t valid)

-- ---- some text follows

module _ (K : Stms → Pos → List Mark → Type 0) (ends_some : (ss : Stms) (end : Pos) → (n : List Mark) × K ss end n) where
  up_then : (os : List Outer) (ss : Stms) (end : Pos) → (n : List Mark) × Up K os ss end n
  up_then [] ss end = ends_some ss end
  up_then (in_block done ∷ os) ss end = let f = up_then os (joined (joined done (one (block ss))) nil) origin in (inside (RightBrace origin) (brace_depth os) ∷ f.0, record { others = nil; end = origin; rest = f.0; reads = brace; follows = f.1 })
  up_then (in_loop done pos c ∷ os) ss end = let f = up_then os (joined (joined done (one (for_stmt pos c ss))) nil) origin in (inside (RightBrace origin) (brace_depth os) ∷ f.0, record { others = nil; end = origin; rest = f.0; reads = brace; follows = f.1 })
  up_then (in_then done bs pos g ∷ os) ss end =
      let f = up_then os (joined (joined done (one (whole_if bs (record { pos = pos; guard = g; body = ss }) no_else))) nil) origin in
      let n = inside (RightBrace origin) (brace_depth os) ∷ f.0 in
      (n, record { whole = no_else; rest = n; reads = absent; follows = record { others = nil; end = origin; rest = f.0; reads = brace; follows = f.1 } })
  up_then (in_else done bs b ∷ os) ss end = let f = up_then os (joined (joined done (one (whole_if bs b (else_block ss)))) nil) origin in (inside (RightBrace origin) (brace_depth os) ∷ f.0, record { others = nil; end = origin; rest = f.0; reads = brace; follows = f.1 })

  stm_then : (b : Blocks) → (n : List Mark) × BehindStm K b n
  stm_then b = let f = up_then b.outer (joined b.done nil) origin in (inside (RightBrace origin) (brace_depth b.outer) ∷ f.0, record { others = nil; end = origin; rest = f.0; reads = brace; follows = f.1 })

  body_then : (b : Blocks) → (n : List Mark) × InBody K b n
  body_then b = let f = up_then b.outer (joined b.done nil) origin in (inside (RightBrace origin) (brace_depth b.outer) ∷ f.0, record { others = nil; end = origin; rest = f.0; reads = close; follows = f.1 })

  -- ---- headers

  opens_if : (b : Blocks) (bs : List Branch) (pos : Pos) (g : Guard) → (n : List Mark) × OpensIf K b bs pos g n
  opens_if b bs pos g = let f = body_then (opened_if b bs pos g) in (inside (LeftBrace origin) (chain_depth bs (statement_depth b)) ∷ f.0, record { pos = origin; rest = f.0; mark = refl; follows = f.1 })

  opens_for : (b : Blocks) (pos : Pos) (c : Clause) → (n : List Mark) × OpensFor K b pos c n
  opens_for b pos c = let f = body_then (opened_for b pos c) in (inside (LeftBrace origin) (statement_depth b) ∷ f.0, record { pos = origin; rest = f.0; mark = refl; follows = f.1 })

  if_then : (b : Blocks) (bs : List Branch) (pos : Pos) → (n : List Mark) × Rest K (at_if b bs pos) n
  if_then b bs pos =
      let f = opens_if b bs pos (record { init = None; condition = zero_at_origin }) in
      let d = chain_depth bs (statement_depth b) in
      (inside (Number origin 0) d ∷ f.0, record { guard = record { init = None; condition = zero_at_origin }; rest = f.0; reads = (inside (Number origin 0) d ∷ f.0, inl refl, (tt, refl)); follows = f.1 })

  for_then : (b : Blocks) (pos : Pos) → (n : List Mark) × Rest K (at_for b pos) n
  for_then b pos = let f = opens_for b pos forever in (f.0, record { clause = forever; rest = f.0; reads = refl; follows = f.1 })

  second_then : (b : Blocks) (pos : Pos) (i : Option Simple) (c : Option Ex) → (n : List Mark) × Rest K (at_post b pos i c) n
  second_then b pos i c = let f = opens_for b pos (counting i c None) in (f.0, record { post = None; rest = f.0; reads = refl; follows = f.1 })

  first_then : (b : Blocks) (pos : Pos) (i : Option Simple) → (n : List Mark) × Rest K (at_second b pos i) n
  first_then b pos i =
      let f = second_then b pos i None in
      let n = inside Semicolon (statement_depth b) ∷ f.0 in
      (n, record { condition = None; rest = n; reads = refl; follows = record { rest = f.0; mark = refl; follows = f.1 } })

  simple_then : (b : Blocks) (s : Spot) (x : Simple) → (n : List Mark) × BehindSimple K b s x n
  simple_then b in_body x = stm_then (with_statement b (simple x))
  simple_then b (in_if bs pos) x =
      let f = opens_if b bs pos (record { init = Some x; condition = zero_at_origin }) in
      let d = chain_depth bs (statement_depth b) in
      let n = inside (Number origin 0) d ∷ f.0 in
      (inside Semicolon d ∷ n, inl (record { rest = n; mark = refl; follows = record { whole = zero_at_origin; rest = f.0; reads = (tt, refl); follows = f.1 } }))
  simple_then b (in_for pos) x = let f = first_then b pos (Some x) in (inside Semicolon (statement_depth b) ∷ f.0, inl (record { rest = f.0; mark = refl; follows = f.1 }))
  simple_then b (in_post pos i c) x = opens_for b pos (counting i c (Some x))

  -- ---- every state

  viable_in : (s : State) → Valid s → (w : List Mark) × Rest K s w
  viable_in (at_statement b) valid = body_then b
  viable_in (in_var b pos s) valid = specs_viable.viable of_variables (statement_depth b) (Declared K b pos) s valid (λ done. stm_then (with_statement b (var_stmt pos done)))
  viable_in (in_simple b s p) valid = simples_viable.viable (context_of b s) (BehindSimple K b s) (BehindRange K b s) p valid (simple_then b s)
  viable_in (at_return b pos) valid = let f = stm_then (with_statement b (return_stmt pos none)) in (f.0, inl f.1)
  viable_in (in_return b pos es o) valid =
      open_viable (value_context b) _ o valid (λ e is. let f = stm_then (with_statement b (return_stmt pos (with_ex es e))) in (f.0, record { others = none; rest = f.0; values = tt; reads = refl; follows = f.1 }))
  viable_in (at_if b bs pos) valid = if_then b bs pos
  viable_in (in_condition b bs pos i o) valid = open_viable (header_context (chain_depth bs (statement_depth b))) _ o valid (λ e is. opens_if b bs pos (record { init = i; condition = e }))
  viable_in (at_for b pos) valid = for_then b pos
  viable_in (at_second b pos i) valid = first_then b pos i
  viable_in (in_second b pos i o) valid =
      open_viable (header_context (statement_depth b)) _ o valid (λ e is. let f = second_then b pos i (Some e) in (inside Semicolon (statement_depth b) ∷ f.0, record { rest = f.0; mark = refl; follows = f.1 }))
  viable_in (at_post b pos i c) valid = second_then b pos i c
  viable_in (in_range b pos vars at o) valid = open_viable (header_context (statement_depth b)) _ o valid (λ e is. opens_for b pos (ranging vars at e))
  viable_in (at_then b bs last) valid = let f = stm_then (with_statement b (whole_if bs last no_else)) in (f.0, record { whole = no_else; rest = f.0; reads = absent; follows = f.1 })
  viable_in (at_else b bs last) valid =
      let f = stm_then (with_statement b (whole_if bs last (else_block nil))) in
      let d = chain_depth bs (statement_depth b) in
      (inside (LeftBrace origin) d ∷ inside (RightBrace origin) d ∷ f.0, record { whole = else_block nil; rest = f.0; reads = otherwise close; follows = f.1 })
  viable_in (at_stop b) valid = stm_then b

pub viable : (K : Stms → Pos → List Mark → Type 0) (s : State) → Valid s → ((ss : Stms) (end : Pos) → (n : List Mark) × K ss end n) → (w : List Mark) × Rest K s w
viable K s valid ends_some = viable_in K ends_some s valid
