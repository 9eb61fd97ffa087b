-- Type safety: in each state of a run each variable's value is of the variable's type, each value that is held is of the type of what gave
-- it, and each pointer and each slice in them leads to a part that is there, of the type that it is to lead to. Each read and each write
-- is of a part that is there.
use Rattle.std.specs.Prelude.{◌≡◌, ◌⊎◌, ℕ, ◌+◌, ◌*◌, ◌≤◌, List, [], ◌∷◌, ◌++◌, Some, slice_get}
use Rattle.typed_syntax.specs.Types.{TypeTree, PartTypes, ints, bools, struct_of, array_of, pointer_to, slice_of, no_types, more_types, repeated, width}
use Rattle.typed_syntax.specs.Value.{Value, Values, int, bool, composite, nil_pointer, pointer, nil_slice, slice_in, no_values, more_values}
use Rattle.typed_syntax.specs.Paths.{Leads}
use Rattle.typed_syntax.specs.Syntax.{Pl, Func, Program, address_of, type_named, site_type}
use Rattle.typed_syntax.specs.Form.{IsInForm}
use Rattle.meaning.specs.Trace.{Born, Read, Write, Cell, Held, Origin, of_ex, of_exs, state, entered, ended, copied, Trace, Turn, Note, Seen, End, Cut}
use Rattle.meaning.specs.Meaning.{Item, trace}
use Rattle.meaning_laws.specs.Rules.{PlaceHas, Has, Have, IsWellTyped}

-- ---- values and variables

-- the types of variables, by their numbers
abbrev pub types_in : List Cell → List TypeTree
types_in [] = []
types_in (c ∷ cs) = c.type ∷ types_in cs

-- a path leads from one of the variables of these types to a part of a type
abbrev pub LeadsToPart : (vars : List TypeTree) → (x : ℕ) → (path : List ℕ) → TypeTree → Type 0
LeadsToPart vars x path t = (s : TypeTree) × (slice_get vars x ≡ Some s) × Leads s path t

-- and to an array of elements of a type, of which a slice has some, and has room for some more
abbrev pub LeadsToElements : (vars : List TypeTree) → (x : ℕ) → (path : List ℕ) → (first count room : ℕ) → TypeTree → Type 0
LeadsToElements vars x path first count room t = (size : ℕ) × LeadsToPart vars x path (array_of size t) × (first + room ≤ size) × (count ≤ room)

module _ (p : Program) (vars : List TypeTree) where
  abbrev mutual
    -- a value of a type, where each pointer leads to a part, and each slice to elements, of the type that its own names
    pub IsTyped : TypeTree → Value → Type 0
    IsTyped ints (int z) = Unit {0}
    IsTyped bools (bool b) = Unit {0}
    IsTyped (struct_of ts) (composite vs) = AreTyped ts vs
    IsTyped (array_of n t) (composite vs) = AreTyped (repeated n t) vs
    IsTyped (pointer_to n) nil_pointer = Unit {0}
    IsTyped (pointer_to n) (pointer x path) = LeadsToPart vars x path (type_named p n)
    IsTyped (slice_of n) nil_slice = Unit {0}
    IsTyped (slice_of n) (slice_in x path first count room) = LeadsToElements vars x path first count room (type_named p n)
    IsTyped t v = ⊥

    -- values side by side
    pub AreTyped : PartTypes → Values → Type 0
    AreTyped no_types no_values = Unit {0}
    AreTyped (more_types t ts) (more_values v vs) = IsTyped t v × AreTyped ts vs
    AreTyped ts vs = ⊥

  abbrev pub EachTyped : List TypeTree → List Value → Type 0
  EachTyped [] [] = Unit {0}
  EachTyped (t ∷ ts) (v ∷ vs) = IsTyped t v × EachTyped ts vs
  EachTyped ts vs = ⊥

  -- each variable's value is of the variable's type
  abbrev pub CellsTyped : List Cell → Type 0
  CellsTyped [] = Unit {0}
  CellsTyped (c ∷ cs) = IsTyped c.type c.value × CellsTyped cs

  -- a value is of a type of what gave it
  abbrev pub IsGiven : Origin → Value → Type 0
  IsGiven (of_ex e) v = (scope : List ℕ) × (t : TypeTree) × Has p scope t e × IsTyped t v
  IsGiven (of_exs es i) v = (scope : List ℕ) × (ts : List TypeTree) × (t : TypeTree) × Have p scope ts es × (slice_get ts i ≡ Some t) × IsTyped t v

  -- or the address of a place, which may be one of a type that the program has no pointers to
  abbrev pub IsAddress : Origin → Value → Type 0
  IsAddress o v = (scope : List ℕ) × (t : TypeTree) × (q : Pl) × (x : ℕ) × (path : List ℕ) × PlaceHas p scope t q × (o ≡ of_ex (address_of q)) × (v ≡ pointer x path) × LeadsToPart vars x path t

  abbrev pub HeldTyped : List Held → Type 0
  HeldTyped [] = Unit {0}
  HeldTyped (h ∷ hs) = (IsGiven h.origin h.value ⊎ IsAddress h.origin h.value) × HeldTyped hs

  -- arguments are of the types of a function's parameters
  abbrev pub ArgumentsTyped : List Value → Type 0
  ArgumentsTyped vs = (f : ℕ) × (func : Func) × (slice_get p.funcs f ≡ Some func) × EachTyped func.param_types vs

-- ---- runs

-- in each state and at each entry of a call
abbrev pub StatesTyped : Program → Trace → Type 0
StatesTyped p (Turn t) = StatesTyped p t
StatesTyped p (Note e t) = StatesTyped p t
StatesTyped p (Seen (state w hs) t) = CellsTyped p (types_in w.store) w.store × HeldTyped p (types_in w.store) hs × StatesTyped p t
StatesTyped p (Seen (entered w vs) t) = CellsTyped p (types_in w.store) w.store × ArgumentsTyped p (types_in w.store) vs × StatesTyped p t
StatesTyped p (Seen (ended n) t) = StatesTyped p t
StatesTyped p (Seen (copied v) t) = StatesTyped p t
StatesTyped p (End e) = Unit {0}
StatesTyped p Cut = Unit {0}

-- the states of each run of a well typed program are typed, however many turns it takes and whatever it reads
abbrev pub StatesAreTyped : Type 0
StatesAreTyped = (items : ℕ → Item) (p : Program) (n : ℕ) → IsWellTyped p → StatesTyped p (trace items p n)

-- ---- journals

-- a variable of a site is of its type, or an array of elements of its type
abbrev pub IsOfSite : Program → (site : ℕ) → TypeTree → Type 0
IsOfSite p site t = (t ≡ site_type p site) ⊎ ((n : ℕ) × (t ≡ array_of n (site_type p site)))

-- n words are those of a part of one of these variables, or of elements of an array in one
abbrev pub ArePart : (vars : List TypeTree) → (x : ℕ) → (path : List ℕ) → (n : ℕ) → Type 0
ArePart vars x path n = (t : TypeTree) × LeadsToPart vars x path t × (n ≡ width t)

abbrev pub AreElements : (vars : List TypeTree) → (x : ℕ) → (path : List ℕ) → (n : ℕ) → Type 0
AreElements vars x path n =
    (array : List ℕ) × (first : ℕ) × (count : ℕ) × (size : ℕ) × (t : TypeTree) × (path ≡ array ++ first ∷ []) × LeadsToPart vars x array (array_of size t) × (first + count ≤ size) × (n ≡ count * width t)

-- each read and each write is of words that are there, of a variable that was born before
abbrev pub AccessesFit : Program → (vars : List TypeTree) → Trace → Type 0
AccessesFit p vars (Turn t) = AccessesFit p vars t
AccessesFit p vars (Note (Born site n) t) = (s : TypeTree) × IsOfSite p site s × (n ≡ width s) × AccessesFit p (vars ++ s ∷ []) t
AccessesFit p vars (Note (Read x path n) t) = (ArePart vars x path n ⊎ AreElements vars x path n) × AccessesFit p vars t
AccessesFit p vars (Note (Write x path n) t) = (ArePart vars x path n ⊎ AreElements vars x path n) × AccessesFit p vars t
AccessesFit p vars (Note e t) = AccessesFit p vars t
AccessesFit p vars (Seen m t) = AccessesFit p vars t
AccessesFit p vars (End e) = Unit {0}
AccessesFit p vars Cut = Unit {0}

abbrev pub AccessesAreThere : Type 0
AccessesAreThere = (items : ℕ → Item) (p : Program) (n : ℕ) → IsWellTyped p → AccessesFit p [] (trace items p n)

-- the checker gives only programs in form
abbrev pub FormIsWellTyped : Type 0
FormIsWellTyped = (p : Program) → IsInForm p → IsWellTyped p
