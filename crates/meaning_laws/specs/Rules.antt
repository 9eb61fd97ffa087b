-- Which programs are well typed: what each form asks of the types of its parts, as far as the meaning goes by it [Go specification,
-- Expressions, Statements].
use Rattle.std.specs.Prelude.{◌≡◌, ◌⊎◌, ℕ, ◌<◌, Bool, true, false, List, [], ◌∷◌, Option, Some, None, length, map, slice_get}
use Rattle.typed_syntax.specs.declared.operators.BinOp.{BinOp}
use Rattle.typed_syntax.specs.declared.operators.BinOp.TheVariants.{Equal, NotEqual, Less, LessEqual, Greater, GreaterEqual}
use Rattle.typed_syntax.specs.Types.{TypeTree, ints, bools, array_of, pointer_to, slice_of, part_count, part_type}
use Rattle.typed_syntax.specs.Value.{Value, IsOf, LeadsNowhere}
use Rattle.typed_syntax.specs.Syntax.{Ex, Exs, Pl, Steps, Left, Piece, Over, St, Sts, Func, Program, constant, read, unary, binary, logical_and, logical_or, call, part_of, literal, nil, address_of, new_variable, literal_variable, slice_literal, make, append, append_slice, copy, slicing, array_slicing, len, cap, Bound, absent, bound, Elements, no_elements, element, none, more, results, read_int, local, global, indirect, slice_element, here, inner, at_index, blank, new, to, text, shown, over_int, over_length, over_copy, over_slice, over_pointer, over_pointed, declare, assign, update, bump, discard, block, if_stmt, for_stmt, range, break_stmt, continue_stmt, return_stmt, print, panic, exit, done, next, type_named, site_type, global_type}
use Rattle.typed_syntax.specs.Form.{IsArithmetic, TakesOne, InScope, AllInScope, scope_behind, scope_after, scope_in, ends_all}

-- what two operands of a type give: two numbers one or a truth value, and a comparison for equality a truth value
abbrev pub Combines : BinOp → (operands result : TypeTree) → Type 0
Combines Equal s t = t ≡ bools
Combines NotEqual s t = t ≡ bools
Combines Less s t = (s ≡ ints) × (t ≡ bools)
Combines LessEqual s t = (s ≡ ints) × (t ≡ bools)
Combines Greater s t = (s ≡ ints) × (t ≡ bools)
Combines GreaterEqual s t = (s ≡ ints) × (t ≡ bools)
Combines op s t = (s ≡ ints) × (t ≡ ints)

abbrev pub AllAre : TypeTree → List TypeTree → Type 0
AllAre t [] = Unit {0}
AllAre t (s ∷ ts) = (s ≡ t) × AllAre t ts

module _ (p : Program) where
  -- a pointer to variables of a site, and a slice of arrays whose elements are of its type
  abbrev pub PointsTo : TypeTree → (site : ℕ) → Type 0
  PointsTo t site = (n : ℕ) × (t ≡ pointer_to n) × (type_named p n ≡ site_type p site)

  abbrev pub SlicesOf : TypeTree → (site : ℕ) → Type 0
  SlicesOf t site = (n : ℕ) × (t ≡ slice_of n) × (type_named p n ≡ site_type p site)

  -- ---- expressions

  abbrev mutual
    -- a place of a type, where variables of these sites can be named
    pub PlaceHas : (scope : List ℕ) → TypeTree → Pl → Type 0
    PlaceHas scope t (local site steps) = InScope site scope × StepsGo scope (site_type p site) steps t
    PlaceHas scope t (global g steps) = (g < length p.globals) × StepsGo scope (global_type p g) steps t
    PlaceHas scope t (indirect at e n steps) = Has scope (pointer_to n) e × StepsGo scope (type_named p n) steps t
    PlaceHas scope t (slice_element at e i n steps) = Has scope (slice_of n) e × Has scope ints i × StepsGo scope (type_named p n) steps t

    -- steps go from values of a type to parts of a type
    pub StepsGo : (scope : List ℕ) → TypeTree → Steps → TypeTree → Type 0
    StepsGo scope t here s = t ≡ s
    StepsGo scope t (inner i steps) s = (i < part_count t) × StepsGo scope (part_type t i) steps s
    StepsGo scope t (at_index at e n steps) s = (r : TypeTree) × (t ≡ array_of n r) × Has scope ints e × StepsGo scope r steps s

    -- an expression has a type
    pub Has : (scope : List ℕ) → TypeTree → Ex → Type 0
    Has scope t (constant v) = IsOf t v × LeadsNowhere v
    Has scope t (read q) = PlaceHas scope t q
    Has scope t (unary op e) = TakesOne op t × Has scope t e
    Has scope t (binary at op a b) = (s : TypeTree) × Combines op s t × Has scope s a × Has scope s b
    Has scope t (logical_and a b) = (t ≡ bools) × Has scope bools a × Has scope bools b
    Has scope t (logical_or a b) = (t ≡ bools) × Has scope bools a × Has scope bools b
    Has scope t (call f es) = (func : Func) × (slice_get p.funcs f ≡ Some func) × (func.results ≡ t ∷ []) × Have scope func.param_types es
    Has scope t (part_of n i e) = (i < part_count (type_named p n)) × (part_type (type_named p n) i ≡ t) × Has scope (type_named p n) e
    Has scope t (literal n es) = (type_named p n ≡ t) × ElementsHave scope t es
    Has scope t (nil s) = s ≡ t
    Has scope t (address_of q) = (n : ℕ) × (t ≡ pointer_to n) × PlaceHas scope (type_named p n) q
    Has scope t (new_variable site) = PointsTo t site
    Has scope t (literal_variable site e) = PointsTo t site × Has scope (site_type p site) e
    Has scope t (slice_literal site es) = SlicesOf t site × ((ts : List TypeTree) × AllAre (site_type p site) ts × Have scope ts es)
    Has scope t (make at site count room) = SlicesOf t site × Has scope ints count × BoundHas scope room
    Has scope t (append site e es) = SlicesOf t site × Has scope t e × ((ts : List TypeTree) × AllAre (site_type p site) ts × Have scope ts es)
    Has scope t (append_slice site e f) = SlicesOf t site × Has scope t e × Has scope t f
    Has scope t (copy n e f) = (t ≡ ints) × Has scope (slice_of n) e × Has scope (slice_of n) f
    Has scope t (slicing at n e low high) = (t ≡ slice_of n) × Has scope (slice_of n) e × BoundHas scope low × BoundHas scope high
    Has scope t (array_slicing at q size low high) = (n : ℕ) × (t ≡ slice_of n) × PlaceHas scope (array_of size (type_named p n)) q × BoundHas scope low × BoundHas scope high
    Has scope t (len e) = (t ≡ ints) × ((n : ℕ) × Has scope (slice_of n) e)
    Has scope t (cap e) = (t ≡ ints) × ((n : ℕ) × Has scope (slice_of n) e)

    -- a bound is a number
    pub BoundHas : (scope : List ℕ) → Bound → Type 0
    BoundHas scope absent = Unit {0}
    BoundHas scope (bound e) = Has scope ints e

    -- elements of a struct or an array of a type
    pub ElementsHave : (scope : List ℕ) → TypeTree → Elements → Type 0
    ElementsHave scope t no_elements = Unit {0}
    ElementsHave scope t (element i e es) = (i < part_count t) × Has scope (part_type t i) e × ElementsHave scope t es

    -- expressions have these types
    pub Have : (scope : List ℕ) → List TypeTree → Exs → Type 0
    Have scope ts (results f es) = (func : Func) × (slice_get p.funcs f ≡ Some func) × (func.results ≡ ts) × Have scope func.param_types es
    Have scope ts read_int = ts ≡ ints ∷ bools ∷ []
    Have scope [] none = Unit {0}
    Have scope (t ∷ ts) (more e es) = Has scope t e × Have scope ts es
    Have scope ts es = ⊥

  -- ---- statements

  -- left sides for a value of a type, and for values of these
  abbrev pub LeftHas : (scope : List ℕ) → TypeTree → Left → Type 0
  LeftHas scope t blank = Unit {0}
  LeftHas scope t (new site) = site_type p site ≡ t
  LeftHas scope t (to q) = PlaceHas scope t q

  abbrev pub LeftsHave : (scope : List ℕ) → List TypeTree → List Left → Type 0
  LeftsHave scope [] [] = Unit {0}
  LeftsHave scope (t ∷ ts) (l ∷ ls) = LeftHas scope t l × LeftsHave scope ts ls
  LeftsHave scope ts ls = ⊥

  abbrev pub TestHas : (scope : List ℕ) → Option Ex → Type 0
  TestHas scope None = Unit {0}
  TestHas scope (Some e) = Has scope bools e

  abbrev pub PieceHas : (scope : List ℕ) → Piece → Type 0
  PieceHas scope (text number) = Unit {0}
  PieceHas scope (shown t e) = Has scope t e

  abbrev pub PiecesHave : (scope : List ℕ) → List Piece → Type 0
  PiecesHave scope [] = Unit {0}
  PiecesHave scope (q ∷ qs) = PieceHas scope q × PiecesHave scope qs

  -- what `range` goes over has elements of a type; where it has none, there is no left side for them
  abbrev pub OverHas : (scope : List ℕ) → TypeTree → (value : Left) → Over → Type 0
  OverHas scope t value (over_int e) = (value ≡ blank) × Has scope ints e
  OverHas scope t value (over_length size) = value ≡ blank
  OverHas scope t value (over_copy site e size) = (site_type p site ≡ array_of size t) × Has scope (array_of size t) e
  OverHas scope t value (over_slice e n) = (type_named p n ≡ t) × Has scope (slice_of n) e
  OverHas scope t value (over_pointer at e size n) = (type_named p n ≡ t) × ((a : ℕ) × (type_named p a ≡ array_of size t) × Has scope (pointer_to a) e)
  OverHas scope t value (over_pointed size) = value ≡ blank

  -- the copy of an array is there before the left sides
  abbrev pub scope_over : (scope : List ℕ) → Over → List ℕ
  scope_over scope (over_copy site e size) = site ∷ scope
  scope_over scope o = scope

  -- a value of each type, or none where the results have names
  abbrev pub ReturnHas : (scope : List ℕ) → List TypeTree → (named : ℕ) → Exs → Type 0
  ReturnHas scope wanted named none = length wanted ≡ named
  ReturnHas scope wanted named es = Have scope wanted es

  -- the statements of a function with these results and `named` names for them; `looped` where a loop is around them
  module _ (wanted : List TypeTree) (named : ℕ) where
    abbrev mutual
      pub StatementIsTyped : (looped : Bool) → (scope : List ℕ) → St → Type 0
      StatementIsTyped looped scope (declare sites) = Unit {0}
      StatementIsTyped looped scope (assign ls es) = (ts : List TypeTree) × LeftsHave scope ts ls × Have scope ts es
      StatementIsTyped looped scope (update at q op e) = IsArithmetic op × PlaceHas scope ints q × Has scope ints e
      StatementIsTyped looped scope (bump at q op) = IsArithmetic op × PlaceHas scope ints q
      StatementIsTyped looped scope (discard es) = (ts : List TypeTree) × Have scope ts es
      StatementIsTyped looped scope (block ss) = StatementsAreTyped looped scope ss
      StatementIsTyped looped scope (if_stmt e a b) = Has scope bools e × StatementsAreTyped looped scope a × StatementsAreTyped looped scope b
      StatementIsTyped looped scope (for_stmt sites test post body) = AllInScope scope sites × TestHas scope test × StatementsAreTyped false scope post × StatementsAreTyped true scope body
      StatementIsTyped looped scope (range over key value body) =
          (t : TypeTree) × OverHas scope t value over × LeftHas (scope_over scope over) ints key × LeftHas (scope_over scope over) t value × StatementsAreTyped true (scope_behind (scope_over scope over) (key ∷ value ∷ [])) body
      StatementIsTyped looped scope break_stmt = looped ≡ true
      StatementIsTyped looped scope continue_stmt = looped ≡ true
      StatementIsTyped looped scope (return_stmt es) = ReturnHas scope wanted named es
      StatementIsTyped looped scope (print ln qs) = PiecesHave scope qs
      StatementIsTyped looped scope (panic at q) = PieceHas scope q
      StatementIsTyped looped scope (exit at e) = Has scope ints e

      pub StatementsAreTyped : (looped : Bool) → (scope : List ℕ) → Sts → Type 0
      StatementsAreTyped looped scope done = Unit {0}
      StatementsAreTyped looped scope (next s ss) = StatementIsTyped looped scope s × StatementsAreTyped looped (scope_after scope s) ss

  -- ---- programs

  -- the sites of parameters are of their types
  abbrev pub ParamsHave : List TypeTree → List (Option ℕ) → Type 0
  ParamsHave [] [] = Unit {0}
  ParamsHave (t ∷ ts) (None ∷ ps) = ParamsHave ts ps
  ParamsHave (t ∷ ts) (Some site ∷ ps) = (site_type p site ≡ t) × ParamsHave ts ps
  ParamsHave ts ps = ⊥

  -- a package variable begins with a value of its type that leads nowhere
  abbrev pub GlobalsHave : List (ℕ × Value) → Type 0
  GlobalsHave [] = Unit {0}
  GlobalsHave (g ∷ gs) = IsOf (site_type p g.0) g.1 × LeadsNowhere g.1 × GlobalsHave gs

-- where a function has results, nothing goes on after its body
pub record FunctionIsTyped (p : Program) (f : Func) : Type 0 where
  pub params : ParamsHave p f.param_types f.params
  pub names : (f.named ≡ []) ⊎ (map (site_type p) f.named ≡ f.results)
  pub body : StatementsAreTyped p f.results (length f.named) false (scope_in f) f.body
  pub end : (f.results ≡ []) ⊎ (ends_all f.body ≡ true)

pub record IsWellTyped (p : Program) : Type 0 where
  pub functions : (f : ℕ) (func : Func) → slice_get p.funcs f ≡ Some func → FunctionIsTyped p func
  pub main : (func : Func) × (slice_get p.funcs p.main ≡ Some func) × (func.param_types ≡ []) × (func.results ≡ [])
  pub globals : GlobalsHave p p.globals
