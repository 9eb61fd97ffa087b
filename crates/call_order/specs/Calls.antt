-- Which functions a function calls: a call counts wherever it stands in the text of the body.
use Rattle.std.specs.Prelude.{◌≡◌, ◌⊎◌, ℕ, List, [], ◌∷◌, Option, Some, None, slice_get}
use Rattle.typed_syntax.specs.Syntax.{Ex, Exs, Pl, Steps, local, global, indirect, slice_element, nil, address_of, new_variable, literal_variable, slice_literal, make, append, append_slice, copy, slicing, array_slicing, len, cap, Bound, absent, bound, here, inner, at_index, Left, blank, new, to, Piece, Over, St, Sts, Func, Program, constant, read, unary, binary, logical_and, logical_or, call, part_of, literal, Elements, no_elements, element, none, more, results, read_int, text, shown, over_int, over_length, over_copy, over_slice, over_pointer, over_pointed, declare, assign, update, bump, discard, block, if_stmt, for_stmt, range, break_stmt, continue_stmt, return_stmt, print, panic, exit, done, next}

-- an expression, or some expressions, have a call of a function
abbrev mutual
  pub ExCalls : Ex → ℕ → Type 0
  ExCalls (constant v) g = ⊥
  ExCalls (read q) g = PlaceCalls q g
  ExCalls (unary op e) g = ExCalls e g
  ExCalls (binary at op a b) g = ExCalls a g ⊎ ExCalls b g
  ExCalls (logical_and a b) g = ExCalls a g ⊎ ExCalls b g
  ExCalls (logical_or a b) g = ExCalls a g ⊎ ExCalls b g
  ExCalls (call f es) g = (f ≡ g) ⊎ ExsCall es g
  ExCalls (part_of n i e) g = ExCalls e g
  ExCalls (literal n es) g = ElementsCall es g
  ExCalls (nil n) g = ⊥
  ExCalls (address_of q) g = PlaceCalls q g
  ExCalls (new_variable site) g = ⊥
  ExCalls (literal_variable site e) g = ExCalls e g
  ExCalls (slice_literal site es) g = ExsCall es g
  ExCalls (make at site count room) g = ExCalls count g ⊎ BoundCalls room g
  ExCalls (append site e es) g = ExCalls e g ⊎ ExsCall es g
  ExCalls (append_slice site a b) g = ExCalls a g ⊎ ExCalls b g
  ExCalls (copy n a b) g = ExCalls a g ⊎ ExCalls b g
  ExCalls (slicing at n e low high) g = ExCalls e g ⊎ (BoundCalls low g ⊎ BoundCalls high g)
  ExCalls (array_slicing at q n low high) g = PlaceCalls q g ⊎ (BoundCalls low g ⊎ BoundCalls high g)
  ExCalls (len e) g = ExCalls e g
  ExCalls (cap e) g = ExCalls e g

  -- a bound, if there is one
  pub BoundCalls : Bound → ℕ → Type 0
  BoundCalls absent g = ⊥
  BoundCalls (bound e) g = ExCalls e g

  -- the operands of a place
  pub PlaceCalls : Pl → ℕ → Type 0
  PlaceCalls (local site steps) g = StepsCall steps g
  PlaceCalls (global number steps) g = StepsCall steps g
  PlaceCalls (indirect at e n steps) g = StepsCall steps g ⊎ ExCalls e g
  PlaceCalls (slice_element at e i n steps) g = StepsCall steps g ⊎ (ExCalls e g ⊎ ExCalls i g)

  pub StepsCall : Steps → ℕ → Type 0
  StepsCall here g = ⊥
  StepsCall (inner i steps) g = StepsCall steps g
  StepsCall (at_index at e n steps) g = ExCalls e g ⊎ StepsCall steps g

  pub ElementsCall : Elements → ℕ → Type 0
  ElementsCall no_elements g = ⊥
  ElementsCall (element i e es) g = ExCalls e g ⊎ ElementsCall es g

  pub ExsCall : Exs → ℕ → Type 0
  ExsCall none g = ⊥
  ExsCall (more e es) g = ExCalls e g ⊎ ExsCall es g
  ExsCall (results f es) g = (f ≡ g) ⊎ ExsCall es g
  ExsCall read_int g = ⊥

-- an operand of `print`, `println` or `panic`
abbrev pub PieceCalls : Piece → ℕ → Type 0
PieceCalls (text number) g = ⊥
PieceCalls (shown t e) g = ExCalls e g

abbrev pub PiecesCall : List Piece → ℕ → Type 0
PiecesCall [] g = ⊥
PiecesCall (p ∷ ps) g = PieceCalls p g ⊎ PiecesCall ps g

-- a condition, if there is one
abbrev pub TestCalls : Option Ex → ℕ → Type 0
TestCalls None g = ⊥
TestCalls (Some e) g = ExCalls e g

abbrev pub OverCalls : Over → ℕ → Type 0
OverCalls (over_int e) g = ExCalls e g
OverCalls (over_length x) g = ⊥
OverCalls (over_copy site e x) g = ExCalls e g
OverCalls (over_slice e n) g = ExCalls e g
OverCalls (over_pointer at e x n) g = ExCalls e g
OverCalls (over_pointed x) g = ⊥

abbrev pub LeftCalls : Left → ℕ → Type 0
LeftCalls blank g = ⊥
LeftCalls (new site) g = ⊥
LeftCalls (to q) g = PlaceCalls q g

abbrev pub LeftsCall : List Left → ℕ → Type 0
LeftsCall [] g = ⊥
LeftsCall (l ∷ ls) g = LeftCalls l g ⊎ LeftsCall ls g

-- a statement, or some statements
abbrev mutual
  pub StCalls : St → ℕ → Type 0
  StCalls (declare sites) g = ⊥
  StCalls (assign ls es) g = LeftsCall ls g ⊎ ExsCall es g
  StCalls (update at q op e) g = PlaceCalls q g ⊎ ExCalls e g
  StCalls (bump at q op) g = PlaceCalls q g
  StCalls (discard es) g = ExsCall es g
  StCalls (block ss) g = StsCall ss g
  StCalls (if_stmt e a b) g = ExCalls e g ⊎ (StsCall a g ⊎ StsCall b g)
  StCalls (for_stmt sites test post body) g = TestCalls test g ⊎ (StsCall post g ⊎ StsCall body g)
  StCalls (range over key value body) g = OverCalls over g ⊎ (LeftsCall (key ∷ value ∷ []) g ⊎ StsCall body g)
  StCalls break_stmt g = ⊥
  StCalls continue_stmt g = ⊥
  StCalls (return_stmt es) g = ExsCall es g
  StCalls (print ln ps) g = PiecesCall ps g
  StCalls (panic at p) g = PieceCalls p g
  StCalls (exit at e) g = ExCalls e g

  pub StsCall : Sts → ℕ → Type 0
  StsCall done g = ⊥
  StsCall (next s ss) g = StCalls s g ⊎ StsCall ss g

-- a function of a program, by its number, calls another one
abbrev pub Calls : Program → ℕ → ℕ → Type 0
Calls p f g = (func : Func) × (slice_get p.funcs f ≡ Some func) × StsCall func.body g
