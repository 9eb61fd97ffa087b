-- What is asked of the sites of a typed program, beside its form: they say in which function they stand, whether a loop carries them, and
-- why their variables are on the heap whatever flows.
use Rattle.std.specs.Prelude.{◌≡◌, ℕ, ◌+◌, ◌<◌, ◌≤◌, nat_lt, Bool, true, false, ◌&&◌, if◌then◌else◌, List, [], ◌∷◌, Option, Some, None, slice_get}
use Rattle.typed_syntax.specs.Value.{Value}
use Rattle.typed_syntax.specs.Syntax.{Ex, Exs, Pl, Steps, Bound, Elements, Left, Piece, Over, St, Sts, Func, Program, constant, read, unary, binary, logical_and, logical_or, call, part_of, literal, nil, address_of, new_variable, literal_variable, slice_literal, make, append, append_slice, copy, slicing, array_slicing, len, cap, absent, bound, no_elements, element, local, global, indirect, slice_element, here, inner, at_index, none, more, results, read_int, blank, new, to, text, shown, over_int, over_length, over_copy, over_slice, over_pointer, over_pointed, declare, assign, update, bump, discard, block, if_stmt, for_stmt, range, break_stmt, continue_stmt, return_stmt, print, panic, exit, done, next}
use Rattle.typed_syntax.specs.Form.{IsInForm}
use Rattle.frames.specs.Placement.{most_words}
use Rattle.param_tags.specs.Order.{number_in}
use Rattle.typed.specs.declared.program.HeapReason.{HeapReason}
use Rattle.typed.specs.declared.program.HeapReason.TheVariants as reason
use Rattle.typed.specs.declared.program.Site.{Site}
use Rattle.typed.specs.declared.program.SiteKind.{SiteKind}
use Rattle.typed.specs.declared.program.SiteKind.TheVariants as kind
use Rattle.typed.specs.declared.program.Program.{Program as ProgramData}
use Rattle.typed.specs.View.{is_made_kind, program_of}

-- ---- a site

abbrev pub func_in : Option Site → Option ℕ
func_in None = None
func_in (Some s) = number_in s.func

-- the function that a site says it stands in
abbrev pub func_of : List Site → ℕ → Option ℕ
func_of sites x = func_in (slice_get sites x)

abbrev pub carried_in : Option Site → Bool
carried_in None = false
carried_in (Some s) = s.carried

-- a site says that a loop carries its variables
abbrev pub IsCarried : List Site → ℕ → Type 0
IsCarried sites x = carried_in (slice_get sites x) ≡ true

-- why a site's variables are on the heap, whatever flows: they are of the package, have too many words for a frame, or have words that
-- are not counted before the program runs
abbrev pub reason_by : SiteKind → (words : ℕ) → (counted : Bool) → Option HeapReason
reason_by kind.Package words counted = Some reason.Package
reason_by other words counted = if nat_lt most_words words then Some reason.Size else if counted then None else Some reason.Unknown

abbrev pub HasReason : List Site → (counted : Bool) → ℕ → Type 0
HasReason sites counted x = (s : Site) × (slice_get sites x ≡ Some s) × (s.known ≡ reason_by s.kind s.words counted)

-- ---- what expressions make

abbrev pub is_constant : Ex → Bool
is_constant (constant v) = true
is_constant e = false

abbrev pub is_bound_constant : Bound → Bool
is_bound_constant absent = true
is_bound_constant (bound e) = is_constant e

module _ (Is : (counted : Bool) → (site : ℕ) → Type 0) where
  -- each site whose variables an expression makes is such a one. The words of what `append` makes are not counted, and those of what `make`
  -- makes are where its length and capacity are constants
  abbrev mutual
    pub ExMakes : Ex → Type 0
    ExMakes (constant v) = Unit {0}
    ExMakes (read q) = PlaceMakes q
    ExMakes (unary op e) = ExMakes e
    ExMakes (binary at op a b) = ExMakes a × ExMakes b
    ExMakes (logical_and a b) = ExMakes a × ExMakes b
    ExMakes (logical_or a b) = ExMakes a × ExMakes b
    ExMakes (call f es) = ExsMake es
    ExMakes (part_of n i e) = ExMakes e
    ExMakes (literal n es) = ElementsMake es
    ExMakes (nil t) = Unit {0}
    ExMakes (address_of q) = PlaceMakes q
    ExMakes (new_variable site) = Is true site
    ExMakes (literal_variable site e) = Is true site × ExMakes e
    ExMakes (slice_literal site es) = Is true site × ExsMake es
    ExMakes (make at site count room) = Is (is_constant count && is_bound_constant room) site × ExMakes count × BoundMakes room
    ExMakes (append site e es) = Is false site × ExMakes e × ExsMake es
    ExMakes (append_slice site a b) = Is false site × ExMakes a × ExMakes b
    ExMakes (copy n a b) = ExMakes a × ExMakes b
    ExMakes (slicing at n e low high) = ExMakes e × BoundMakes low × BoundMakes high
    ExMakes (array_slicing at q n low high) = PlaceMakes q × BoundMakes low × BoundMakes high
    ExMakes (len e) = ExMakes e
    ExMakes (cap e) = ExMakes e

    pub BoundMakes : Bound → Type 0
    BoundMakes absent = Unit {0}
    BoundMakes (bound e) = ExMakes e

    pub PlaceMakes : Pl → Type 0
    PlaceMakes (local site steps) = StepsMake steps
    PlaceMakes (global number steps) = StepsMake steps
    PlaceMakes (indirect at e n steps) = ExMakes e × StepsMake steps
    PlaceMakes (slice_element at e i n steps) = ExMakes e × ExMakes i × StepsMake steps

    pub StepsMake : Steps → Type 0
    StepsMake here = Unit {0}
    StepsMake (inner i steps) = StepsMake steps
    StepsMake (at_index at e n steps) = ExMakes e × StepsMake steps

    pub ElementsMake : Elements → Type 0
    ElementsMake no_elements = Unit {0}
    ElementsMake (element i e es) = ExMakes e × ElementsMake es

    pub ExsMake : Exs → Type 0
    ExsMake none = Unit {0}
    ExsMake (more e es) = ExMakes e × ExsMake es
    ExsMake (results f es) = ExsMake es
    ExsMake read_int = Unit {0}

  abbrev pub PieceMakes : Piece → Type 0
  PieceMakes (text number) = Unit {0}
  PieceMakes (shown t e) = ExMakes e

  abbrev pub PiecesMake : List Piece → Type 0
  PiecesMake [] = Unit {0}
  PiecesMake (q ∷ ps) = PieceMakes q × PiecesMake ps

  abbrev pub TestMakes : Option Ex → Type 0
  TestMakes None = Unit {0}
  TestMakes (Some e) = ExMakes e

  abbrev pub OverMakes : Over → Type 0
  OverMakes (over_int e) = ExMakes e
  OverMakes (over_length x) = Unit {0}
  OverMakes (over_copy site e x) = ExMakes e
  OverMakes (over_slice e n) = ExMakes e
  OverMakes (over_pointer at e x n) = ExMakes e
  OverMakes (over_pointed x) = Unit {0}

  abbrev pub LeftMakes : Left → Type 0
  LeftMakes blank = Unit {0}
  LeftMakes (new site) = Unit {0}
  LeftMakes (to q) = PlaceMakes q

  abbrev pub LeftsMake : List Left → Type 0
  LeftsMake [] = Unit {0}
  LeftsMake (l ∷ ls) = LeftMakes l × LeftsMake ls

  -- so it is in statements, whose loops carry such variables
  module _ (Carries : ℕ → Type 0) where
    abbrev pub AllCarry : List ℕ → Type 0
    AllCarry [] = Unit {0}
    AllCarry (x ∷ xs) = Carries x × AllCarry xs

    abbrev mutual
      pub StMakes : St → Type 0
      StMakes (declare sites) = Unit {0}
      StMakes (assign ls es) = LeftsMake ls × ExsMake es
      StMakes (update at q op e) = PlaceMakes q × ExMakes e
      StMakes (bump at q op) = PlaceMakes q
      StMakes (discard es) = ExsMake es
      StMakes (block ss) = StsMake ss
      StMakes (if_stmt e a b) = ExMakes e × StsMake a × StsMake b
      StMakes (for_stmt sites test post body) = AllCarry sites × TestMakes test × StsMake post × StsMake body
      StMakes (range over key value body) = OverMakes over × LeftsMake (key ∷ value ∷ []) × StsMake body
      StMakes break_stmt = Unit {0}
      StMakes continue_stmt = Unit {0}
      StMakes (return_stmt es) = ExsMake es
      StMakes (print ln ps) = PiecesMake ps
      StMakes (panic at q) = PieceMakes q
      StMakes (exit at e) = ExMakes e

      pub StsMake : Sts → Type 0
      StsMake done = Unit {0}
      StsMake (next s ss) = StMakes s × StsMake ss

-- ---- the sites of a program

pub record SitesFit (p : Program) (sites : List Site) : Type 0 where
  -- those of each function are there, and they and no others say that they stand in it
  pub own : (f : ℕ) (func : Func) → slice_get p.funcs f ≡ Some func → (x : ℕ) → func.first ≤ x → x < func.first + func.count → func_of sites x ≡ Some f
  pub among : (x f : ℕ) → func_of sites x ≡ Some f → (func : Func) × (slice_get p.funcs f ≡ Some func) × (func.first ≤ x) × (x < func.first + func.count)
  -- the expressions of a function make variables of its sites, with their reason, and what its loops carry says so
  pub made : (f : ℕ) (func : Func) → slice_get p.funcs f ≡ Some func
      → StsMake (λ counted x. (func_of sites x ≡ Some f) × HasReason sites counted x) (IsCarried sites) func.body
  -- all others have theirs
  pub others : (x : ℕ) (s : Site) → slice_get sites x ≡ Some s → is_made_kind s.kind ≡ false → s.known ≡ reason_by s.kind s.words true
  pub globals : (i : ℕ) (g : ℕ × Value) → slice_get p.globals i ≡ Some g → (s : Site) × (slice_get sites g.0 ≡ Some s) × (s.kind ≡ kind.Package)

-- a program in form, with sites that fit it
pub record IsSited (program : ProgramData) : Type 0 where
  pub form : IsInForm (program_of program)
  pub sites : SitesFit (program_of program) program.sites.items
