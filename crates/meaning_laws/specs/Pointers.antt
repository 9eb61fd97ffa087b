-- The variables that pointers and slices name, and that they are there in every state of a run.
use Rattle.std.specs.Prelude.{ℕ, ◌<◌, List, [], ◌∷◌, Option, Some, None, length}
use Rattle.typed_syntax.specs.Value.{Value, Values, int, bool, composite, nil_pointer, pointer, nil_slice, slice_in, no_values, more_values}
use Rattle.typed_syntax.specs.Syntax.{Ex, Exs, Pl, Steps, Left, Piece, Over, St, Sts, Func, Program, constant, read, unary, binary, logical_and, logical_or, call, part_of, literal, nil, address_of, new_variable, literal_variable, slice_literal, make, append, append_slice, copy, slicing, array_slicing, len, cap, Bound, absent, bound, Elements, no_elements, element, none, more, results, read_int, local, global, indirect, slice_element, here, inner, at_index, blank, new, to, text, shown, over_int, over_length, over_copy, over_slice, over_pointer, over_pointed, declare, assign, update, bump, discard, block, if_stmt, for_stmt, range, break_stmt, continue_stmt, return_stmt, print, panic, exit, done, next}
use Rattle.meaning.specs.Trace.{Cell, Held, state, entered, ended, copied, Trace, Turn, Note, Seen, End, Cut}
use Rattle.meaning.specs.Meaning.{Item, trace}

-- ---- values and states

abbrev mutual
  -- each pointer and each slice in a value names one of the first n variables
  pub NamesBelow : ℕ → Value → Type 0
  NamesBelow n (int z) = Unit {0}
  NamesBelow n (bool b) = Unit {0}
  NamesBelow n (composite vs) = AllNameBelow n vs
  NamesBelow n nil_pointer = Unit {0}
  NamesBelow n (pointer x path) = x < n
  NamesBelow n nil_slice = Unit {0}
  NamesBelow n (slice_in x path first count room) = x < n

  pub AllNameBelow : ℕ → Values → Type 0
  AllNameBelow n no_values = Unit {0}
  AllNameBelow n (more_values v vs) = NamesBelow n v × AllNameBelow n vs

-- the same of each value, of each variable, and of each value that is held
abbrev pub EachNamesBelow : ℕ → List Value → Type 0
EachNamesBelow n [] = Unit {0}
EachNamesBelow n (v ∷ vs) = NamesBelow n v × EachNamesBelow n vs

abbrev pub CellsNameBelow : ℕ → List Cell → Type 0
CellsNameBelow n [] = Unit {0}
CellsNameBelow n (c ∷ cs) = NamesBelow n c.value × CellsNameBelow n cs

abbrev pub HeldNameBelow : ℕ → List Held → Type 0
HeldNameBelow n [] = Unit {0}
HeldNameBelow n (h ∷ hs) = NamesBelow n h.value × HeldNameBelow n hs

-- in each state with a variable, each pointer and each slice in a variable, in a value that is held, or in an argument names a
-- variable that is there
abbrev pub NamesAreThere : Trace → Type 0
NamesAreThere (Turn t) = NamesAreThere t
NamesAreThere (Note e t) = NamesAreThere t
NamesAreThere (Seen (state w vs) t) = (0 < length w.store → CellsNameBelow (length w.store) w.store × HeldNameBelow (length w.store) vs) × NamesAreThere t
NamesAreThere (Seen (entered w vs) t) = (0 < length w.store → CellsNameBelow (length w.store) w.store × EachNamesBelow (length w.store) vs) × NamesAreThere t
NamesAreThere (Seen (ended n) t) = NamesAreThere t
NamesAreThere (Seen (copied v) t) = NamesAreThere t
NamesAreThere (End e) = Unit {0}
NamesAreThere Cut = Unit {0}

-- ---- texts

-- the constants of a text hold no pointers and no slices, and of n package variables it names no others
module _ (n : ℕ) where
  abbrev mutual
    pub StepsAreBare : Steps → Type 0
    StepsAreBare here = Unit {0}
    StepsAreBare (inner i steps) = StepsAreBare steps
    StepsAreBare (at_index at e size steps) = IsBare e × StepsAreBare steps

    pub PlaceIsBare : Pl → Type 0
    PlaceIsBare (local site steps) = StepsAreBare steps
    PlaceIsBare (global g steps) = (g < n) × StepsAreBare steps
    PlaceIsBare (indirect at e t steps) = IsBare e × StepsAreBare steps
    PlaceIsBare (slice_element at e i t steps) = IsBare e × IsBare i × StepsAreBare steps

    pub IsBare : Ex → Type 0
    IsBare (constant v) = NamesBelow 0 v
    IsBare (read q) = PlaceIsBare q
    IsBare (unary op e) = IsBare e
    IsBare (binary at op a b) = IsBare a × IsBare b
    IsBare (logical_and a b) = IsBare a × IsBare b
    IsBare (logical_or a b) = IsBare a × IsBare b
    IsBare (call f es) = AreBare es
    IsBare (part_of t i e) = IsBare e
    IsBare (literal t es) = ElementsAreBare es
    IsBare (nil t) = Unit {0}
    IsBare (address_of q) = PlaceIsBare q
    IsBare (new_variable site) = Unit {0}
    IsBare (literal_variable site e) = IsBare e
    IsBare (slice_literal site es) = AreBare es
    IsBare (make at site count room) = IsBare count × BoundIsBare room
    IsBare (append site e es) = IsBare e × AreBare es
    IsBare (append_slice site e f) = IsBare e × IsBare f
    IsBare (copy t e f) = IsBare e × IsBare f
    IsBare (slicing at t e low high) = IsBare e × BoundIsBare low × BoundIsBare high
    IsBare (array_slicing at q size low high) = PlaceIsBare q × BoundIsBare low × BoundIsBare high
    IsBare (len e) = IsBare e
    IsBare (cap e) = IsBare e

    pub BoundIsBare : Bound → Type 0
    BoundIsBare absent = Unit {0}
    BoundIsBare (bound e) = IsBare e

    pub ElementsAreBare : Elements → Type 0
    ElementsAreBare no_elements = Unit {0}
    ElementsAreBare (element i e es) = IsBare e × ElementsAreBare es

    pub AreBare : Exs → Type 0
    AreBare none = Unit {0}
    AreBare (more e es) = IsBare e × AreBare es
    AreBare (results f es) = AreBare es
    AreBare read_int = Unit {0}

  abbrev pub LeftIsBare : Left → Type 0
  LeftIsBare blank = Unit {0}
  LeftIsBare (new site) = Unit {0}
  LeftIsBare (to q) = PlaceIsBare q

  abbrev pub LeftsAreBare : List Left → Type 0
  LeftsAreBare [] = Unit {0}
  LeftsAreBare (l ∷ ls) = LeftIsBare l × LeftsAreBare ls

  abbrev pub PieceIsBare : Piece → Type 0
  PieceIsBare (text number) = Unit {0}
  PieceIsBare (shown t e) = IsBare e

  abbrev pub PiecesAreBare : List Piece → Type 0
  PiecesAreBare [] = Unit {0}
  PiecesAreBare (q ∷ qs) = PieceIsBare q × PiecesAreBare qs

  abbrev pub TestIsBare : Option Ex → Type 0
  TestIsBare None = Unit {0}
  TestIsBare (Some e) = IsBare e

  abbrev pub OverIsBare : Over → Type 0
  OverIsBare (over_int e) = IsBare e
  OverIsBare (over_length size) = Unit {0}
  OverIsBare (over_copy site e size) = IsBare e
  OverIsBare (over_slice e t) = IsBare e
  OverIsBare (over_pointer at e size t) = IsBare e
  OverIsBare (over_pointed size) = Unit {0}

  abbrev mutual
    pub StatementIsBare : St → Type 0
    StatementIsBare (declare sites) = Unit {0}
    StatementIsBare (assign ls es) = LeftsAreBare ls × AreBare es
    StatementIsBare (update at q op e) = PlaceIsBare q × IsBare e
    StatementIsBare (bump at q op) = PlaceIsBare q
    StatementIsBare (discard es) = AreBare es
    StatementIsBare (block ss) = StatementsAreBare ss
    StatementIsBare (if_stmt e a b) = IsBare e × StatementsAreBare a × StatementsAreBare b
    StatementIsBare (for_stmt sites test post body) = TestIsBare test × StatementsAreBare post × StatementsAreBare body
    StatementIsBare (range over key value body) = OverIsBare over × LeftIsBare key × LeftIsBare value × StatementsAreBare body
    StatementIsBare break_stmt = Unit {0}
    StatementIsBare continue_stmt = Unit {0}
    StatementIsBare (return_stmt es) = AreBare es
    StatementIsBare (print ln qs) = PiecesAreBare qs
    StatementIsBare (panic at q) = PieceIsBare q
    StatementIsBare (exit at e) = IsBare e

    pub StatementsAreBare : Sts → Type 0
    StatementsAreBare done = Unit {0}
    StatementsAreBare (next s ss) = StatementIsBare s × StatementsAreBare ss

  abbrev pub BodiesAreBare : List Func → Type 0
  BodiesAreBare [] = Unit {0}
  BodiesAreBare (f ∷ fs) = StatementsAreBare f.body × BodiesAreBare fs

-- no package variable begins with a pointer or a slice
abbrev pub GlobalsAreBare : List (ℕ × Value) → Type 0
GlobalsAreBare [] = Unit {0}
GlobalsAreBare (g ∷ gs) = NamesBelow 0 g.1 × GlobalsAreBare gs

pub record ProgramIsBare (p : Program) : Type 0 where
  pub bodies : BodiesAreBare (length p.globals) p.funcs
  pub globals : GlobalsAreBare p.globals

-- no pointer and no slice names a variable that isn't there, as long as there is any: whether a site has a variable before its address is
-- taken is a matter of scopes, and of how many values calls give, and neither is asked for here
abbrev pub PointersNameVariables : Type 0
PointersNameVariables = (items : ℕ → Item) (p : Program) (n : ℕ) → ProgramIsBare p → NamesAreThere (trace items p n)
