-- The list of a body's calls has the functions that the body calls; so reaching goes by the lists.
use Rattle.std.proofs.Common.{◌≡◌, ℕ, zero, suc, List, [], ◌∷◌, ◌++◌, Option, Some, None, slice_get, refl, sym, subst, inl, inr, ◌⊎◌}
use Rattle.std.proofs.lemmas.Option.{same_Some}
use Rattle.components.specs.Graph.{Among, row, Reaches as Joins, itself as same, onward}
use Rattle.components.proofs.Lists.{among_left, among_right, among_split}
use Rattle.components.proofs.Joining.{reaches_edge}
use Rattle.typed_syntax.specs.Syntax.{Ex, Exs, Pl, Steps, local, global, indirect, slice_element, nil, address_of, new_variable, literal_variable, slice_literal, make, append, append_slice, copy, slicing, array_slicing, len, cap, Bound, absent, bound, here, inner, at_index, Left, blank, new, to, Piece, Over, St, Sts, Func, Program, constant, read, unary, binary, logical_and, logical_or, call, part_of, literal, Elements, no_elements, element, none, more, results, read_int, text, shown, over_int, over_length, over_copy, over_slice, over_pointer, over_pointed, declare, assign, update, bump, discard, block, if_stmt, for_stmt, range, break_stmt, continue_stmt, return_stmt, print, panic, exit, done, next}
use Rattle.call_order.specs.Calls.{ExCalls, ExsCall, BoundCalls, PlaceCalls, StepsCall, ElementsCall, LeftCalls, LeftsCall, PieceCalls, PiecesCall, TestCalls, OverCalls, StCalls, StsCall, Calls}
use Rattle.call_order.specs.Lists.{called, called_all, called_in_bound, called_in_place, called_in_steps, called_in_elements, called_in_left, called_in_lefts, called_in_piece, called_in_pieces, called_in_test, called_in_over, called_by, called_by_all, call_lists}
use Rattle.call_order.specs.Order.{Reaches, itself, by_call}

-- ---- lists side by side

apart : {A B : Type 0} (xs ys : List ℕ) (g : ℕ) → (Among g xs → A) → (Among g ys → B) → Among g (xs ++ ys) → A ⊎ B
apart xs ys g l r c = elim (among_split g xs ys c) [ inl left ↦ inl (l left) | inr right ↦ inr (r right) ]

joined : {A B : Type 0} (xs ys : List ℕ) (g : ℕ) → (A → Among g xs) → (B → Among g ys) → A ⊎ B → Among g (xs ++ ys)
joined xs ys g l r c = elim c [ inl a ↦ among_left g xs ys (l a) | inr b ↦ among_right g xs ys (r b) ]

first_or : {A : Type 0} (f g : ℕ) (xs : List ℕ) → (Among g xs → A) → Among g (f ∷ xs) → (f ≡ g) ⊎ A
first_or f g xs r c = elim c [ inl is ↦ inl (sym is) | inr later ↦ inr (r later) ]

or_first : {A : Type 0} (f g : ℕ) (xs : List ℕ) → (A → Among g xs) → (f ≡ g) ⊎ A → Among g (f ∷ xs)
or_first f g xs r c = elim c [ inl is ↦ inl (sym is) | inr later ↦ inr (r later) ]

-- ---- what is in the list is called

mutual
  ex_calls : (e : Ex) (g : ℕ) → Among g (called e) → ExCalls e g
  ex_calls (constant v) g c = c
  ex_calls (read q) g c = place_calls q g c
  ex_calls (unary op e) g c = ex_calls e g c
  ex_calls (binary at op a b) g c = apart (called a) (called b) g (ex_calls a g) (ex_calls b g) c
  ex_calls (logical_and a b) g c = apart (called a) (called b) g (ex_calls a g) (ex_calls b g) c
  ex_calls (logical_or a b) g c = apart (called a) (called b) g (ex_calls a g) (ex_calls b g) c
  ex_calls (call f es) g c = first_or f g (called_all es) (exs_call es g) c
  ex_calls (part_of n i e) g c = ex_calls e g c
  ex_calls (literal n es) g c = elements_call es g c
  ex_calls (nil n) g c = c
  ex_calls (address_of q) g c = place_calls q g c
  ex_calls (new_variable site) g c = c
  ex_calls (literal_variable site e) g c = ex_calls e g c
  ex_calls (slice_literal site es) g c = exs_call es g c
  ex_calls (make at site count room) g c = apart (called count) (called_in_bound room) g (ex_calls count g) (bound_calls room g) c
  ex_calls (append site e es) g c = apart (called e) (called_all es) g (ex_calls e g) (exs_call es g) c
  ex_calls (append_slice site a b) g c = apart (called a) (called b) g (ex_calls a g) (ex_calls b g) c
  ex_calls (copy n a b) g c = apart (called a) (called b) g (ex_calls a g) (ex_calls b g) c
  ex_calls (slicing at n e low high) g c = apart (called e) (called_in_bound low ++ called_in_bound high) g (ex_calls e g) (λ d. apart (called_in_bound low) (called_in_bound high) g (bound_calls low g) (bound_calls high g) d) c
  ex_calls (array_slicing at q n low high) g c = apart (called_in_place q) (called_in_bound low ++ called_in_bound high) g (place_calls q g) (λ d. apart (called_in_bound low) (called_in_bound high) g (bound_calls low g) (bound_calls high g) d) c
  ex_calls (len e) g c = ex_calls e g c
  ex_calls (cap e) g c = ex_calls e g c

  bound_calls : (b : Bound) (g : ℕ) → Among g (called_in_bound b) → BoundCalls b g
  bound_calls absent g c = c
  bound_calls (bound e) g c = ex_calls e g c

  place_calls : (q : Pl) (g : ℕ) → Among g (called_in_place q) → PlaceCalls q g
  place_calls (local site steps) g c = steps_call steps g c
  place_calls (global number steps) g c = steps_call steps g c
  place_calls (indirect at e n steps) g c = apart (called_in_steps steps) (called e) g (steps_call steps g) (ex_calls e g) c
  place_calls (slice_element at e i n steps) g c = apart (called_in_steps steps) (called e ++ called i) g (steps_call steps g) (λ d. apart (called e) (called i) g (ex_calls e g) (ex_calls i g) d) c

  steps_call : (steps : Steps) (g : ℕ) → Among g (called_in_steps steps) → StepsCall steps g
  steps_call here g c = c
  steps_call (inner i steps) g c = steps_call steps g c
  steps_call (at_index at e n steps) g c = apart (called e) (called_in_steps steps) g (ex_calls e g) (steps_call steps g) c

  elements_call : (es : Elements) (g : ℕ) → Among g (called_in_elements es) → ElementsCall es g
  elements_call no_elements g c = c
  elements_call (element i e es) g c = apart (called e) (called_in_elements es) g (ex_calls e g) (elements_call es g) c

  exs_call : (es : Exs) (g : ℕ) → Among g (called_all es) → ExsCall es g
  exs_call none g c = c
  exs_call (more e es) g c = apart (called e) (called_all es) g (ex_calls e g) (exs_call es g) c
  exs_call (results f es) g c = first_or f g (called_all es) (exs_call es g) c
  exs_call read_int g c = c

piece_calls : (p : Piece) (g : ℕ) → Among g (called_in_piece p) → PieceCalls p g
piece_calls (text number) g c = c
piece_calls (shown t e) g c = ex_calls e g c

pieces_call : (ps : List Piece) (g : ℕ) → Among g (called_in_pieces ps) → PiecesCall ps g
pieces_call [] g c = c
pieces_call (p ∷ ps) g c = apart (called_in_piece p) (called_in_pieces ps) g (piece_calls p g) (pieces_call ps g) c

test_calls : (t : Option Ex) (g : ℕ) → Among g (called_in_test t) → TestCalls t g
test_calls None g c = c
test_calls (Some e) g c = ex_calls e g c

over_calls : (o : Over) (g : ℕ) → Among g (called_in_over o) → OverCalls o g
over_calls (over_int e) g c = ex_calls e g c
over_calls (over_length x) g c = c
over_calls (over_copy site e x) g c = ex_calls e g c
over_calls (over_slice e n) g c = ex_calls e g c
over_calls (over_pointer at e x n) g c = ex_calls e g c
over_calls (over_pointed x) g c = c

left_calls : (l : Left) (g : ℕ) → Among g (called_in_left l) → LeftCalls l g
left_calls blank g c = c
left_calls (new site) g c = c
left_calls (to q) g c = place_calls q g c

lefts_call : (ls : List Left) (g : ℕ) → Among g (called_in_lefts ls) → LeftsCall ls g
lefts_call [] g c = c
lefts_call (l ∷ ls) g c = apart (called_in_left l) (called_in_lefts ls) g (left_calls l g) (lefts_call ls g) c

mutual
  st_calls : (s : St) (g : ℕ) → Among g (called_by s) → StCalls s g
  st_calls (declare sites) g c = c
  st_calls (assign ls es) g c = apart (called_in_lefts ls) (called_all es) g (lefts_call ls g) (exs_call es g) c
  st_calls (update at q op e) g c = apart (called_in_place q) (called e) g (place_calls q g) (ex_calls e g) c
  st_calls (bump at q op) g c = place_calls q g c
  st_calls (discard es) g c = exs_call es g c
  st_calls (block ss) g c = sts_call ss g c
  st_calls (if_stmt e a b) g c = apart (called e) (called_by_all a ++ called_by_all b) g (ex_calls e g) (λ d. apart (called_by_all a) (called_by_all b) g (sts_call a g) (sts_call b g) d) c
  st_calls (for_stmt sites test post body) g c = apart (called_in_test test) (called_by_all post ++ called_by_all body) g (test_calls test g) (λ d. apart (called_by_all post) (called_by_all body) g (sts_call post g) (sts_call body g) d) c
  st_calls (range over key value body) g c = apart (called_in_over over) (called_in_lefts (key ∷ value ∷ []) ++ called_by_all body) g (over_calls over g)
      (λ d. apart (called_in_lefts (key ∷ value ∷ [])) (called_by_all body) g (lefts_call (key ∷ value ∷ []) g) (sts_call body g) d) c
  st_calls break_stmt g c = c
  st_calls continue_stmt g c = c
  st_calls (return_stmt es) g c = exs_call es g c
  st_calls (print ln ps) g c = pieces_call ps g c
  st_calls (panic at p) g c = piece_calls p g c
  st_calls (exit at e) g c = ex_calls e g c

  sts_call : (ss : Sts) (g : ℕ) → Among g (called_by_all ss) → StsCall ss g
  sts_call done g c = c
  sts_call (next s ss) g c = apart (called_by s) (called_by_all ss) g (st_calls s g) (sts_call ss g) c

-- ---- what is called is in the list

mutual
  in_ex : (e : Ex) (g : ℕ) → ExCalls e g → Among g (called e)
  in_ex (constant v) g c = c
  in_ex (read q) g c = in_place q g c
  in_ex (unary op e) g c = in_ex e g c
  in_ex (binary at op a b) g c = joined (called a) (called b) g (in_ex a g) (in_ex b g) c
  in_ex (logical_and a b) g c = joined (called a) (called b) g (in_ex a g) (in_ex b g) c
  in_ex (logical_or a b) g c = joined (called a) (called b) g (in_ex a g) (in_ex b g) c
  in_ex (call f es) g c = or_first f g (called_all es) (in_exs es g) c
  in_ex (part_of n i e) g c = in_ex e g c
  in_ex (literal n es) g c = in_elements es g c
  in_ex (nil n) g c = c
  in_ex (address_of q) g c = in_place q g c
  in_ex (new_variable site) g c = c
  in_ex (literal_variable site e) g c = in_ex e g c
  in_ex (slice_literal site es) g c = in_exs es g c
  in_ex (make at site count room) g c = joined (called count) (called_in_bound room) g (in_ex count g) (in_bound room g) c
  in_ex (append site e es) g c = joined (called e) (called_all es) g (in_ex e g) (in_exs es g) c
  in_ex (append_slice site a b) g c = joined (called a) (called b) g (in_ex a g) (in_ex b g) c
  in_ex (copy n a b) g c = joined (called a) (called b) g (in_ex a g) (in_ex b g) c
  in_ex (slicing at n e low high) g c = joined (called e) (called_in_bound low ++ called_in_bound high) g (in_ex e g) (λ d. joined (called_in_bound low) (called_in_bound high) g (in_bound low g) (in_bound high g) d) c
  in_ex (array_slicing at q n low high) g c = joined (called_in_place q) (called_in_bound low ++ called_in_bound high) g (in_place q g) (λ d. joined (called_in_bound low) (called_in_bound high) g (in_bound low g) (in_bound high g) d) c
  in_ex (len e) g c = in_ex e g c
  in_ex (cap e) g c = in_ex e g c

  in_bound : (b : Bound) (g : ℕ) → BoundCalls b g → Among g (called_in_bound b)
  in_bound absent g c = c
  in_bound (bound e) g c = in_ex e g c

  in_place : (q : Pl) (g : ℕ) → PlaceCalls q g → Among g (called_in_place q)
  in_place (local site steps) g c = in_steps steps g c
  in_place (global number steps) g c = in_steps steps g c
  in_place (indirect at e n steps) g c = joined (called_in_steps steps) (called e) g (in_steps steps g) (in_ex e g) c
  in_place (slice_element at e i n steps) g c = joined (called_in_steps steps) (called e ++ called i) g (in_steps steps g) (λ d. joined (called e) (called i) g (in_ex e g) (in_ex i g) d) c

  in_steps : (steps : Steps) (g : ℕ) → StepsCall steps g → Among g (called_in_steps steps)
  in_steps here g c = c
  in_steps (inner i steps) g c = in_steps steps g c
  in_steps (at_index at e n steps) g c = joined (called e) (called_in_steps steps) g (in_ex e g) (in_steps steps g) c

  in_elements : (es : Elements) (g : ℕ) → ElementsCall es g → Among g (called_in_elements es)
  in_elements no_elements g c = c
  in_elements (element i e es) g c = joined (called e) (called_in_elements es) g (in_ex e g) (in_elements es g) c

  in_exs : (es : Exs) (g : ℕ) → ExsCall es g → Among g (called_all es)
  in_exs none g c = c
  in_exs (more e es) g c = joined (called e) (called_all es) g (in_ex e g) (in_exs es g) c
  in_exs (results f es) g c = or_first f g (called_all es) (in_exs es g) c
  in_exs read_int g c = c

in_piece : (p : Piece) (g : ℕ) → PieceCalls p g → Among g (called_in_piece p)
in_piece (text number) g c = c
in_piece (shown t e) g c = in_ex e g c

in_pieces : (ps : List Piece) (g : ℕ) → PiecesCall ps g → Among g (called_in_pieces ps)
in_pieces [] g c = c
in_pieces (p ∷ ps) g c = joined (called_in_piece p) (called_in_pieces ps) g (in_piece p g) (in_pieces ps g) c

in_test : (t : Option Ex) (g : ℕ) → TestCalls t g → Among g (called_in_test t)
in_test None g c = c
in_test (Some e) g c = in_ex e g c

in_over : (o : Over) (g : ℕ) → OverCalls o g → Among g (called_in_over o)
in_over (over_int e) g c = in_ex e g c
in_over (over_length x) g c = c
in_over (over_copy site e x) g c = in_ex e g c
in_over (over_slice e n) g c = in_ex e g c
in_over (over_pointer at e x n) g c = in_ex e g c
in_over (over_pointed x) g c = c

in_left : (l : Left) (g : ℕ) → LeftCalls l g → Among g (called_in_left l)
in_left blank g c = c
in_left (new site) g c = c
in_left (to q) g c = in_place q g c

in_lefts : (ls : List Left) (g : ℕ) → LeftsCall ls g → Among g (called_in_lefts ls)
in_lefts [] g c = c
in_lefts (l ∷ ls) g c = joined (called_in_left l) (called_in_lefts ls) g (in_left l g) (in_lefts ls g) c

mutual
  in_st : (s : St) (g : ℕ) → StCalls s g → Among g (called_by s)
  in_st (declare sites) g c = c
  in_st (assign ls es) g c = joined (called_in_lefts ls) (called_all es) g (in_lefts ls g) (in_exs es g) c
  in_st (update at q op e) g c = joined (called_in_place q) (called e) g (in_place q g) (in_ex e g) c
  in_st (bump at q op) g c = in_place q g c
  in_st (discard es) g c = in_exs es g c
  in_st (block ss) g c = in_sts ss g c
  in_st (if_stmt e a b) g c = joined (called e) (called_by_all a ++ called_by_all b) g (in_ex e g) (λ d. joined (called_by_all a) (called_by_all b) g (in_sts a g) (in_sts b g) d) c
  in_st (for_stmt sites test post body) g c = joined (called_in_test test) (called_by_all post ++ called_by_all body) g (in_test test g) (λ d. joined (called_by_all post) (called_by_all body) g (in_sts post g) (in_sts body g) d) c
  in_st (range over key value body) g c = joined (called_in_over over) (called_in_lefts (key ∷ value ∷ []) ++ called_by_all body) g (in_over over g)
      (λ d. joined (called_in_lefts (key ∷ value ∷ [])) (called_by_all body) g (in_lefts (key ∷ value ∷ []) g) (in_sts body g) d) c
  in_st break_stmt g c = c
  in_st continue_stmt g c = c
  in_st (return_stmt es) g c = in_exs es g c
  in_st (print ln ps) g c = in_pieces ps g c
  in_st (panic at p) g c = in_piece p g c
  in_st (exit at e) g c = in_ex e g c

  in_sts : (ss : Sts) (g : ℕ) → StsCall ss g → Among g (called_by_all ss)
  in_sts done g c = c
  in_sts (next s ss) g c = joined (called_by s) (called_by_all ss) g (in_st s g) (in_sts ss g) c

-- ---- the functions of a program

row_calls : (fs : List Func) (f g : ℕ) → Among g (row (call_lists fs) f) → (func : Func) × (slice_get fs f ≡ Some func) × Among g (called_by_all func.body)
row_calls [] f g c = absurd c
row_calls (func ∷ fs) zero g c = (func, refl, c)
row_calls (func ∷ fs) (suc f) g c = row_calls fs f g c

in_row : (fs : List Func) (f g : ℕ) (func : Func) → slice_get fs f ≡ Some func → Among g (called_by_all func.body) → Among g (row (call_lists fs) f)
in_row [] f g func at c = let bad : None ≡ Some func = at in absurd cc
in_row (other ∷ fs) zero g func at c = subst (λ (x : Func). Among g (called_by_all x.body)) (sym (same_Some other func at)) c
in_row (other ∷ fs) (suc f) g func at c = in_row fs f g func at c

module _ (p : Program) where
  listed_calls : (f g : ℕ) → Among g (row (call_lists p.funcs) f) → Calls p f g
  listed_calls f g c = let at = row_calls p.funcs f g c in (at.0, at.1, sts_call at.0.body g at.2)

  pub calls_listed : (f g : ℕ) → Calls p f g → Among g (row (call_lists p.funcs) f)
  calls_listed f g c = in_row p.funcs f g c.0 c.1 (in_sts c.0.body g c.2)

  -- what is reached along lists that begin at a function which is reached
  reaches_on : {f g h : ℕ} → Reaches p f g → Joins (call_lists p.funcs) g h → Reaches p f h
  reaches_on r same = r
  reaches_on r (onward {i} {j} {k} c rest) = reaches_on (by_call r (listed_calls i j c)) rest

  pub joins_reaches : {f g : ℕ} → Joins (call_lists p.funcs) f g → Reaches p f g
  joins_reaches c = reaches_on itself c

  pub reaches_joins : {f g : ℕ} → Reaches p f g → Joins (call_lists p.funcs) f g
  reaches_joins itself = same
  reaches_joins (by_call {f} {g} {h} r c) = reaches_edge (call_lists p.funcs) f g h (reaches_joins r) (calls_listed g h c)
