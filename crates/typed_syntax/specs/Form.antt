-- What holds of each program that the checker gives.
use Rattle.std.specs.Prelude.{◌≡◌, ◌⊎◌, ⊤, ℕ, suc, ◌+◌, ◌<◌, ◌≤◌, ◌^◌, Bool, true, false, not, List, [], ◌∷◌, Option, Some, None, length, map, slice_get, ◌&&◌, ◌||◌, FitsSigned}
use Rattle.std.specs.Int.{w64}
use Rattle.typed_syntax.specs.declared.operators.BinOp.{BinOp}
use Rattle.typed_syntax.specs.declared.operators.BinOp.TheVariants.{Add, Sub, Equal, NotEqual, Less, LessEqual, Greater, GreaterEqual}
use Rattle.typed_syntax.specs.declared.operators.UnOp.{UnOp}
use Rattle.typed_syntax.specs.declared.operators.UnOp.TheVariants.{Not}
use Rattle.typed_syntax.specs.Types.{TypeTree, PartTypes, ints, bools, struct_of, array_of, pointer_to, slice_of, no_types, more_types, width, part_count, part_type}
use Rattle.typed_syntax.specs.Value.{Value, int, bool, IsOf, FitsWords, LeadsNowhere}
use Rattle.typed_syntax.specs.Syntax.{Ex, Exs, Pl, Left, Piece, Over, St, Sts, Func, Program, constant, read, unary, binary, logical_and, logical_or, call, part_of, literal, Elements, no_elements, element, nil, address_of, new_variable, literal_variable, slice_literal, make, append, append_slice, copy, slicing, array_slicing, len, cap, Bound, absent, bound, local, global, indirect, slice_element, none, more, results, read_int, blank, new, to, text, shown, over_int, over_length, over_copy, over_slice, over_pointer, over_pointed, declare, assign, update, bump, discard, block, if_stmt, for_stmt, range, break_stmt, continue_stmt, return_stmt, print, panic, exit, done, next, Steps, here, inner, at_index, argument_words, result_words, type_named, site_type, is_taken, is_made, global_type}

-- ---- types

-- values side by side
abbrev pub AreOf : List TypeTree → List Value → Type 0
AreOf [] [] = Unit {0}
AreOf (t ∷ ts) (v ∷ vs) = IsOf t v × AreOf ts vs
AreOf ts vs = ⊥

abbrev pub IsPlain : TypeTree → Type 0
IsPlain t = (t ≡ ints) ⊎ (t ≡ bools)

-- a constant is a number of 64 bits with a sign, or a truth value
abbrev pub IsWord : Value → Type 0
IsWord (int z) = FitsSigned w64 z
IsWord (bool b) = ⊤
IsWord v = ⊥

-- an operator on two numbers that gives one
abbrev pub IsArithmetic : BinOp → Type 0
IsArithmetic Equal = ⊥
IsArithmetic NotEqual = ⊥
IsArithmetic Less = ⊥
IsArithmetic LessEqual = ⊥
IsArithmetic Greater = ⊥
IsArithmetic GreaterEqual = ⊥
IsArithmetic op = ⊤

-- a value of a type has no slice in it
abbrev mutual
  pub HasNoSlice : TypeTree → Type 0
  HasNoSlice ints = Unit {0}
  HasNoSlice bools = Unit {0}
  HasNoSlice (struct_of ts) = HaveNoSlice ts
  HasNoSlice (array_of n t) = HasNoSlice t
  HasNoSlice (pointer_to n) = Unit {0}
  HasNoSlice (slice_of n) = ⊥

  pub HaveNoSlice : PartTypes → Type 0
  HaveNoSlice no_types = Unit {0}
  HaveNoSlice (more_types t ts) = HasNoSlice t × HaveNoSlice ts

-- values of a type can be compared: they have a word at least, and no slice
abbrev pub IsComparable : TypeTree → Type 0
IsComparable t = (0 < width t) × HasNoSlice t

-- `nil`, which each pointer and each slice can be compared with
abbrev pub IsNil : Ex → Type 0
IsNil (nil t) = Unit {0}
IsNil e = ⊥

-- two operands of a type can be compared
abbrev pub AreCompared : TypeTree → Ex → Ex → Type 0
AreCompared t a b = IsComparable t ⊎ (IsNil a ⊎ IsNil b)

-- a pointer or a slice may lead nowhere
abbrev pub IsNilable : TypeTree → Type 0
IsNilable (pointer_to n) = Unit {0}
IsNilable (slice_of n) = Unit {0}
IsNilable t = ⊥

-- the type of an operator's operands, and of what it gives
abbrev pub Takes : BinOp → (a b : Ex) → (operands result : TypeTree) → Type 0
Takes Equal a b s t = AreCompared s a b × (t ≡ bools)
Takes NotEqual a b s t = AreCompared s a b × (t ≡ bools)
Takes Less a b s t = (s ≡ ints) × (t ≡ bools)
Takes LessEqual a b s t = (s ≡ ints) × (t ≡ bools)
Takes Greater a b s t = (s ≡ ints) × (t ≡ bools)
Takes GreaterEqual a b s t = (s ≡ ints) × (t ≡ bools)
Takes op a b s t = (s ≡ ints) × (t ≡ ints)

abbrev pub TakesOne : UnOp → TypeTree → Type 0
TakesOne Not t = t ≡ bools
TakesOne op t = t ≡ ints

-- the operators of `++` and `--`
abbrev pub IsStep : BinOp → Type 0
IsStep op = (op ≡ Add) ⊎ (op ≡ Sub)

-- ---- scopes

-- the sites whose variables can be named
abbrev pub InScope : ℕ → List ℕ → Type 0
InScope v [] = ⊥
InScope v (u ∷ scope) = (v ≡ u) ⊎ InScope v scope

abbrev pub AllInScope : List ℕ → List ℕ → Type 0
AllInScope scope [] = Unit {0}
AllInScope scope (site ∷ sites) = InScope site scope × AllInScope scope sites

-- ---- the numbers of sites: in a function they ascend in the order of the text. What an expression makes has its number among them, so those
-- of declared variables may leave some out

-- the least number that the next site may have after sites, after left sides, and after what `range` goes over
abbrev pub sites_after : ℕ → List ℕ → ℕ
sites_after m [] = m
sites_after m (site ∷ sites) = sites_after (suc site) sites

abbrev pub lefts_after : ℕ → List Left → ℕ
lefts_after m [] = m
lefts_after m (blank ∷ ls) = lefts_after m ls
lefts_after m (new site ∷ ls) = lefts_after (suc site) ls
lefts_after m (to p ∷ ls) = lefts_after m ls

-- the copy comes with the word `range`
abbrev pub over_after : ℕ → Over → ℕ
over_after m (over_int e) = m
over_after m (over_length x) = m
over_after m (over_copy site e x) = suc site
over_after m (over_slice e t) = m
over_after m (over_pointer at e x t) = m
over_after m (over_pointed x) = m

-- and after what statements declare
abbrev mutual
  pub declared_after : ℕ → St → ℕ
  declared_after m (declare sites) = sites_after m sites
  declared_after m (assign ls es) = lefts_after m ls
  declared_after m (update at p op e) = m
  declared_after m (bump at p op) = m
  declared_after m (discard es) = m
  declared_after m (block ss) = all_sites_after m ss
  declared_after m (if_stmt e a b) = all_sites_after (all_sites_after m a) b
  declared_after m (for_stmt sites test post body) = all_sites_after (all_sites_after m post) body
  declared_after m (range over key value body) = all_sites_after (over_after (lefts_after m (key ∷ value ∷ [])) over) body
  declared_after m break_stmt = m
  declared_after m continue_stmt = m
  declared_after m (return_stmt es) = m
  declared_after m (print ln ps) = m
  declared_after m (panic at p) = m
  declared_after m (exit at e) = m

  pub all_sites_after : ℕ → Sts → ℕ
  all_sites_after m done = m
  all_sites_after m (next s ss) = all_sites_after (declared_after m s) ss

-- the scope after left sides, and after a statement
abbrev pub scope_behind : List ℕ → List Left → List ℕ
scope_behind scope [] = scope
scope_behind scope (blank ∷ ls) = scope_behind scope ls
scope_behind scope (new site ∷ ls) = scope_behind (site ∷ scope) ls
scope_behind scope (to p ∷ ls) = scope_behind scope ls

abbrev pub scope_with : List ℕ → List ℕ → List ℕ
scope_with scope [] = scope
scope_with scope (site ∷ sites) = scope_with (site ∷ scope) sites

abbrev pub scope_after : List ℕ → St → List ℕ
scope_after scope (declare sites) = scope_with scope sites
scope_after scope (assign ls es) = scope_behind scope ls
scope_after scope s = scope

-- ---- terminating statements [Go specification, Terminating statements]

-- whether a `break` leaves the loop around a statement
abbrev mutual
  pub breaks : St → Bool
  breaks break_stmt = true
  breaks (block ss) = breaks_all ss
  breaks (if_stmt e a b) = breaks_all a || breaks_all b
  breaks s = false

  pub breaks_all : Sts → Bool
  breaks_all done = false
  breaks_all (next s ss) = breaks s || breaks_all ss

-- whether nothing can go on after a statement
abbrev mutual
  pub ends : St → Bool
  ends (block ss) = ends_all ss
  ends (if_stmt e a b) = ends_all a && ends_all b
  ends (for_stmt sites None post body) = not (breaks_all body)
  ends (return_stmt es) = true
  ends (panic at p) = true
  ends s = false

  -- the last statement decides
  pub ends_all : Sts → Bool
  ends_all done = false
  ends_all (next s done) = ends s
  ends_all (next s (next r rs)) = ends_all (next r rs)

-- ---- what fits in a program

module _ (p : Program) where
  -- a pointer or a slice may lead to the variables that a place begins at; those of the package, and what is reached through another one,
  -- stay wherever they are
  abbrev pub IsTaken : Pl → Type 0
  IsTaken (local site steps) = is_taken p site ≡ true
  IsTaken q = Unit {0}

  -- a site of declared variables: its number is m at least, and below n
  abbrev pub IsNext : (m n site : ℕ) → Type 0
  IsNext m n site = (m ≤ site) × (site < n) × (is_made p site ≡ false)

  -- such sites, in ascending order
  abbrev pub SitesNext : (m n : ℕ) → List ℕ → Type 0
  SitesNext m n [] = Unit {0}
  SitesNext m n (site ∷ sites) = IsNext m n site × SitesNext (suc site) n sites

  -- a pointer to variables of a site, which an expression makes
  abbrev pub LeadsToSite : TypeTree → (site : ℕ) → Type 0
  LeadsToSite t site = (n : ℕ) × (t ≡ pointer_to n) × (type_named p n ≡ site_type p site) × (is_taken p site ≡ true)

  -- a slice of elements of a site's type, whose arrays an expression makes
  abbrev pub ElementsOfSite : TypeTree → (site : ℕ) → Type 0
  ElementsOfSite t site = (n : ℕ) × (t ≡ slice_of n) × (type_named p n ≡ site_type p site) × (is_taken p site ≡ true)

  abbrev mutual
    -- a place whose part is of a type, which has a word at least
    pub PlFits : List ℕ → TypeTree → Pl → Type 0
    PlFits scope t (local site steps) = InScope site scope × StepsLead scope (site_type p site) steps t × (0 < width t)
    PlFits scope t (global g steps) = (g < length p.globals) × StepsLead scope (global_type p g) steps t × (0 < width t)
    -- what a pointer leads to is named by its type's number
    PlFits scope t (indirect at e n steps) = ExFits scope (pointer_to n) e × StepsLead scope (type_named p n) steps t × (0 < width t)
    -- and what the elements of a slice are
    PlFits scope t (slice_element at e i n steps) = ExFits scope (slice_of n) e × ExFits scope ints i × StepsLead scope (type_named p n) steps t × (0 < width t)

    -- steps lead from values of a type to parts of a type
    pub StepsLead : List ℕ → TypeTree → Steps → TypeTree → Type 0
    StepsLead scope t here s = t ≡ s
    StepsLead scope t (inner i steps) s = (i < part_count t) × StepsLead scope (part_type t i) steps s
    StepsLead scope t (at_index at e n steps) s = (r : TypeTree) × (t ≡ array_of n r) × (0 < n) × ExFits scope ints e × StepsLead scope r steps s

    -- an expression with a value of a type, and expressions with values of these types
    pub ExFits : List ℕ → TypeTree → Ex → Type 0
    ExFits scope t (constant v) = IsOf t v × IsWord v
    ExFits scope t (read q) = PlFits scope t q
    ExFits scope t (unary op e) = TakesOne op t × ExFits scope t e
    ExFits scope t (binary at op a b) = (s : TypeTree) × Takes op a b s t × ExFits scope s a × ExFits scope s b
    ExFits scope t (logical_and a b) = (t ≡ bools) × ExFits scope bools a × ExFits scope bools b
    ExFits scope t (logical_or a b) = (t ≡ bools) × ExFits scope bools a × ExFits scope bools b
    ExFits scope t (call f es) = (func : Func) × (slice_get p.funcs f ≡ Some func) × (func.results ≡ t ∷ []) × ExsFit scope func.param_types es
    ExFits scope t (part_of n i e) = (i < part_count (type_named p n)) × (part_type (type_named p n) i ≡ t) × (0 < width t) × ExFits scope (type_named p n) e
    ExFits scope t (literal n es) = (type_named p n ≡ t) × (0 < width t) × ElementsFit scope t es
    ExFits scope t (nil s) = (s ≡ t) × IsNilable t
    ExFits scope t (address_of q) = (n : ℕ) × (t ≡ pointer_to n) × PlFits scope (type_named p n) q × IsTaken q
    ExFits scope t (new_variable site) = LeadsToSite t site
    ExFits scope t (literal_variable site e) = LeadsToSite t site × ExFits scope (site_type p site) e
    ExFits scope t (slice_literal site es) = ElementsOfSite t site × AllFit scope (site_type p site) es
    ExFits scope t (make at site count room) = ElementsOfSite t site × ExFits scope ints count × BoundFits scope room
    ExFits scope t (append site e es) = ElementsOfSite t site × ExFits scope t e × AllFit scope (site_type p site) es
    ExFits scope t (append_slice site e s) = ElementsOfSite t site × ExFits scope t e × ExFits scope t s
    ExFits scope t (copy n target source) = (t ≡ ints) × (0 < width (type_named p n)) × ExFits scope (slice_of n) target × ExFits scope (slice_of n) source
    ExFits scope t (slicing at n e low high) = (t ≡ slice_of n) × (0 < width (type_named p n)) × ExFits scope t e × BoundFits scope low × BoundFits scope high
    ExFits scope t (array_slicing at q x low high) =
        (n : ℕ) × (t ≡ slice_of n) × (x < 2 ^ 63) × PlFits scope (array_of x (type_named p n)) q × IsTaken q × BoundFits scope low × BoundFits scope high
    ExFits scope t (len e) = (t ≡ ints) × ((n : ℕ) × ExFits scope (slice_of n) e)
    ExFits scope t (cap e) = (t ≡ ints) × ((n : ℕ) × ExFits scope (slice_of n) e)

    pub BoundFits : List ℕ → Bound → Type 0
    BoundFits scope absent = Unit {0}
    BoundFits scope (bound e) = ExFits scope ints e

    -- elements of one type, each an expression of its own
    pub AllFit : List ℕ → TypeTree → Exs → Type 0
    AllFit scope t none = Unit {0}
    AllFit scope t (more e es) = ExFits scope t e × AllFit scope t es
    AllFit scope t es = ⊥

    -- elements of a struct or an array of a type; each has a word at least
    pub ElementsFit : List ℕ → TypeTree → Elements → Type 0
    ElementsFit scope t no_elements = Unit {0}
    ElementsFit scope t (element i e es) = (i < part_count t) × (0 < width (part_type t i)) × ExFits scope (part_type t i) e × ElementsFit scope t es

    pub ExsFit : List ℕ → List TypeTree → Exs → Type 0
    ExsFit scope [] none = Unit {0}
    ExsFit scope (t ∷ ts) (more e es) = ExFits scope t e × ExsFit scope ts es
    ExsFit scope ts (results f es) = (func : Func) × (slice_get p.funcs f ≡ Some func) × (func.results ≡ ts) × ExsFit scope func.param_types es
    ExsFit scope ts read_int = ts ≡ ints ∷ bools ∷ []
    ExsFit scope ts es = ⊥

  -- left sides for values of these types
  abbrev pub LeftsFit : List ℕ → (m n : ℕ) → List TypeTree → List Left → Type 0
  LeftsFit scope m n [] [] = Unit {0}
  LeftsFit scope m n (t ∷ ts) (blank ∷ ls) = LeftsFit scope m n ts ls
  LeftsFit scope m n (t ∷ ts) (new site ∷ ls) = IsNext m n site × (site_type p site ≡ t) × LeftsFit scope (suc site) n ts ls
  LeftsFit scope m n (t ∷ ts) (to q ∷ ls) = PlFits scope t q × LeftsFit scope m n ts ls
  LeftsFit scope m n ts ls = ⊥

  -- a left side that gets its value
  abbrev pub IsUsed : Left → Type 0
  IsUsed blank = ⊥
  IsUsed l = Unit {0}

  abbrev pub TestFits : List ℕ → Option Ex → Type 0
  TestFits scope None = Unit {0}
  TestFits scope (Some e) = ExFits scope bools e

  -- an operand of `print`, `println` or `panic`
  abbrev pub PieceFits : List ℕ → Piece → Type 0
  PieceFits scope (text number) = number < length p.strings
  PieceFits scope (shown t e) = IsPlain t × ExFits scope t e

  abbrev pub PiecesFit : List ℕ → List Piece → Type 0
  PiecesFit scope [] = Unit {0}
  PiecesFit scope (q ∷ ps) = PieceFits scope q × PiecesFit scope ps

  -- what a function with these results and `named` names for them returns: a value of each type, or none where they have names
  abbrev pub ReturnFits : List ℕ → List TypeTree → (named : ℕ) → Exs → Type 0
  ReturnFits scope wanted named none = length wanted ≡ named
  ReturnFits scope wanted named es = ExsFit scope wanted es

  -- the statements of a function with these results and `named` names for them; `looped` where a loop is around them
  module _ (wanted : List TypeTree) (named : ℕ) where
    abbrev mutual
      pub StFits : (looped : Bool) → List ℕ → (m n : ℕ) → St → Type 0
      StFits looped scope m n (declare sites) = SitesNext m n sites
      StFits looped scope m n (assign ls es) = (ts : List TypeTree) × LeftsFit scope m n ts ls × ExsFit scope ts es
      StFits looped scope m n (update at q op e) = IsArithmetic op × PlFits scope ints q × ExFits scope ints e
      StFits looped scope m n (bump at q op) = IsStep op × PlFits scope ints q
      StFits looped scope m n (discard es) = (ts : List TypeTree) × ExsFit scope ts es
      StFits looped scope m n (block ss) = StsFit looped scope m n ss
      StFits looped scope m n (if_stmt e a b) = ExFits scope bools e × StsFit looped scope m n a × StsFit looped scope (all_sites_after m a) n b
      StFits looped scope m n (for_stmt sites test post body) =
          AllInScope scope sites × TestFits scope test × StsFit false scope m n post × StsFit true scope (all_sites_after m post) n body
      StFits looped scope m n (range (over_int e) key blank body) =
          ExFits scope ints e × LeftsFit scope m n (ints ∷ []) (key ∷ []) × StsFit true (scope_behind scope (key ∷ [])) (lefts_after m (key ∷ [])) n body
      StFits looped scope m n (range (over_length x) key blank body) =
          (x < 2 ^ 63) × LeftsFit scope m n (ints ∷ []) (key ∷ []) × StsFit true (scope_behind scope (key ∷ [])) (lefts_after m (key ∷ [])) n body
      -- the copy comes with the word `range`, after the left sides
      StFits looped scope m n (range (over_copy site e x) key value body) =
          (r : TypeTree) × (site_type p site ≡ array_of x r) × (0 < width r) × (x < 2 ^ 63) × IsNext (lefts_after m (key ∷ value ∷ [])) n site × ExFits scope (array_of x r) e × LeftsFit (site ∷ scope) m n (ints ∷ r ∷ []) (key ∷ value ∷ []) × StsFit true (scope_behind (site ∷ scope) (key ∷ value ∷ [])) (suc site) n body
      -- a slice is gone over as it is at the start
      StFits looped scope m n (range (over_slice e t) key value body) =
          (0 < width (type_named p t)) × ExFits scope (slice_of t) e × LeftsFit scope m n (ints ∷ type_named p t ∷ []) (key ∷ value ∷ []) × StsFit true (scope_behind scope (key ∷ value ∷ [])) (lefts_after m (key ∷ value ∷ [])) n body
      -- what a pointer leads to has no copy, and without elements the pointer is not worked out
      StFits looped scope m n (range (over_pointer at e x t) key value body) =
          (a : ℕ) × (type_named p a ≡ array_of x (type_named p t)) × (0 < width (type_named p t)) × (x < 2 ^ 63) × IsUsed value × ExFits scope (pointer_to a) e × LeftsFit scope m n (ints ∷ type_named p t ∷ []) (key ∷ value ∷ []) × StsFit true (scope_behind scope (key ∷ value ∷ [])) (lefts_after m (key ∷ value ∷ [])) n body
      StFits looped scope m n (range (over_pointed x) key blank body) =
          (x < 2 ^ 63) × LeftsFit scope m n (ints ∷ []) (key ∷ []) × StsFit true (scope_behind scope (key ∷ [])) (lefts_after m (key ∷ [])) n body
      StFits looped scope m n break_stmt = looped ≡ true
      StFits looped scope m n continue_stmt = looped ≡ true
      StFits looped scope m n (return_stmt es) = ReturnFits scope wanted named es
      StFits looped scope m n (print ln ps) = PiecesFit scope ps
      StFits looped scope m n (panic at q) = PieceFits scope q
      StFits looped scope m n (exit at e) = ExFits scope ints e
      StFits looped scope m n s = ⊥

      pub StsFit : (looped : Bool) → List ℕ → (m n : ℕ) → Sts → Type 0
      StsFit looped scope m n done = Unit {0}
      StsFit looped scope m n (next s ss) = StFits looped scope m n s × StsFit looped (scope_after scope s) (declared_after m s) n ss

  -- the sites of parameters from m on, and of results with names, in the order of the text, and their types
  abbrev pub ParamsFit : ℕ → List TypeTree → List (Option ℕ) → Type 0
  ParamsFit m [] [] = Unit {0}
  ParamsFit m (t ∷ ts) (None ∷ ps) = ParamsFit m ts ps
  ParamsFit m (t ∷ ts) (Some site ∷ ps) = (site ≡ m) × (is_made p site ≡ false) × (site_type p site ≡ t) × ParamsFit (suc m) ts ps
  ParamsFit m ts ps = ⊥

  abbrev pub NamedFit : ℕ → List ℕ → Type 0
  NamedFit m [] = Unit {0}
  NamedFit m (site ∷ sites) = (site ≡ m) × (is_made p site ≡ false) × NamedFit (suc m) sites

-- how many parameters have a site
abbrev pub named_params : List (Option ℕ) → ℕ
named_params [] = 0
named_params (None ∷ ps) = named_params ps
named_params (Some site ∷ ps) = suc (named_params ps)

-- the scope at the beginning of a body
abbrev pub params_scope : List ℕ → List (Option ℕ) → List ℕ
params_scope scope [] = scope
params_scope scope (None ∷ ps) = params_scope scope ps
params_scope scope (Some site ∷ ps) = params_scope (site ∷ scope) ps

abbrev pub scope_in : Func → List ℕ
scope_in f = scope_with (params_scope [] f.params) f.named

-- the least number that a site of the body may have
abbrev pub body_first : Func → ℕ
body_first f = f.first + named_params f.params + length f.named

-- a function: its sites are numbered in the order of the text, and where it has results, nothing goes on after its body
pub record FuncFits (p : Program) (f : Func) : Type 0 where
  pub params : ParamsFit p f.first f.param_types f.params
  pub named : NamedFit p (f.first + named_params f.params) f.named
  pub names : (f.named ≡ []) ⊎ (map (site_type p) f.named ≡ f.results)
  pub count : named_params f.params + length f.named ≤ f.count
  pub body : StsFit p f.results (length f.named) false (scope_in f) (body_first f) (f.first + f.count) f.body
  pub end : (f.results ≡ []) ⊎ (ends_all f.body ≡ true)
  -- arguments and results have at most 65,535 words
  pub small : argument_words f + result_words f ≤ 65535

-- package variables: each begins with a value of its type that leads to no variable, and its site is none of a function
pub record GlobalFits (p : Program) (g : ℕ × Value) : Type 0 where
  pub value : IsOf (site_type p g.0) g.1 × FitsWords g.1
  pub alone : LeadsNowhere g.1
  pub apart : (f : ℕ) (func : Func) → slice_get p.funcs f ≡ Some func → (g.0 < func.first) ⊎ (func.first + func.count ≤ g.0)

-- each function fits; `main` is one without parameters and results; there are at most 4,096; each variable has a word at
-- least
pub record IsInForm (p : Program) : Type 0 where
  pub fits : (f : ℕ) (func : Func) → slice_get p.funcs f ≡ Some func → FuncFits p func
  pub few : length p.funcs ≤ 4096
  pub main : (func : Func) × (slice_get p.funcs p.main ≡ Some func) × (func.params ≡ []) × (func.results ≡ []) × (func.named ≡ [])
  pub solid : (site : ℕ) → 0 < width (site_type p site)
  pub globals : (i : ℕ) (g : ℕ × Value) → slice_get p.globals i ≡ Some g → GlobalFits p g
