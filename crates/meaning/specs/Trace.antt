-- What a run gives: turns, entries of the journal, states and an end.
use Rattle.std.specs.Prelude.{ℕ, ℤ, List}
use Rattle.typed_syntax.specs.Positions.{Position}
use Rattle.typed_syntax.specs.Types.{TypeTree}
use Rattle.typed_syntax.specs.Value.{Value}
use Rattle.typed_syntax.specs.Syntax.{Ex, Exs}

-- an entry of the journal
pub data Entry : Type 0 where
  Call : (func : ℕ) → Entry
  Return : Entry
  Born : (site words : ℕ) → Entry
  Read : (variable : ℕ) (path : List ℕ) (words : ℕ) → Entry
  Write : (variable : ℕ) (path : List ℕ) (words : ℕ) → Entry
  Print : (bytes : List ℕ) → Entry
  -- a call of `readInt`, which stands in no journal and marks the output before it
  Asked : Entry

-- why a program panics
pub data Fault : Type 0 where
  divide_by_zero : Fault
  shift_count : (count : ℤ) → Fault
  exit_code : (code : ℤ) → Fault
  -- a pointer that leads nowhere is followed
  nil_dereference : Fault
  -- an index, and the length of the array or the slice that has no such element
  index_out_of_range : (index length : ℤ) → Fault
  -- a high bound of a slicing that is not from 0 to the capacity, and a low one that is not from 0 to the high one
  slice_high : (high capacity : ℤ) → Fault
  slice_low : (low high : ℤ) → Fault
  -- a length of `make` that is not from 0 to 2^40, and a capacity that is not from the length to 2^40
  make_length : (length : ℤ) → Fault
  make_capacity : (capacity length : ℤ) → Fault
  -- `panic` with a string, and with a value
  raised_text : (bytes : List ℕ) → Fault
  raised : Value → Fault

-- how a run ends; Turns where it would take a turn more than there are
pub data Ending : Type 0 where
  Turns : Ending
  Exit : (status : ℕ) → Ending
  Panic : Position → Fault → Ending
  -- the words of the stack in use, those asked for, and the most
  StackLimit : (used asked max : ℕ) → Ending
  -- the same of the heap
  HeapLimit : (used asked max : ℕ) → Ending

-- a variable: its site, the number of variables at the entry of the call that it was born in, its type and its value
pub record Cell : Type 0 where
  pub site : ℕ
  pub call : ℕ
  pub type : TypeTree
  pub value : Value

-- the variables by birth, none of which dies or moves, and how many items of the input were read
pub record World : Type 0 where
  pub store : List Cell
  pub reads : ℕ

-- what gave a value: an expression, or some expressions, of whose values it has this number
pub data Origin : Type 0 where
  of_ex : Ex → Origin
  of_exs : Exs → (number : ℕ) → Origin

-- a value that a running evaluation holds, what gave it, and the running call: the number of variables at its entry
pub record Held : Type 0 where
  pub value : Value
  pub origin : Origin
  pub call : ℕ

-- what is marked for the invariants
pub data Mark : Type 0 where
  -- a state: the variables, and the values that running evaluations hold, the newest first
  state : World → List Held → Mark
  -- a call begins, with these variables and arguments
  entered : World → List Value → Mark
  -- a round ends, a loop is left, or a call returns: the variables from this number on are not current any more
  ended : ℕ → Mark
  -- the next entry is the read of an old header variable that the next round copies
  copied : ℕ → Mark

-- what a program does: a turn is marked where it is taken, Seen shows nothing, Cut is where the fuel is out
pub data Trace : Type 0 where
  Turn : Trace → Trace
  Note : Entry → Trace → Trace
  Seen : Mark → Trace → Trace
  End : Ending → Trace
  Cut : Trace
