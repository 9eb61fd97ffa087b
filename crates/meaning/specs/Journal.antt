-- The journal of a bounded run: what a program does within n turns, alone and under limits.
use Rattle.std.specs.Prelude.{ℕ, ◌+◌, List, [], ◌∷◌, ◌++◌, nat_le, if◌then◌else◌}
use Rattle.typed_syntax.specs.Syntax.{Program}
use Rattle.simulation.specs.Outcome as Run
use Rattle.simulation.specs.Outcome.{Lines, Outcome, Gives, Ends, Unfinished, upto}
use Rattle.meaning.specs.Trace.{Entry, Call, Return, Born, Read, Write, Print, Asked, Ending, Turns, StackLimit, HeapLimit, Trace, Turn, Note, Seen, End, Cut}
use Rattle.meaning.specs.Meaning.{Item, trace}
use Rattle.meaning.specs.Output.{Limits, used_by, tail_of}

-- all entries of a trace
abbrev pub entries : Trace → Lines Entry Ending
entries (Turn t) = Run.Turn (entries t)
entries (Seen m t) = entries t
entries (Note e t) = Run.Line e (entries t)
entries (End e) = Run.End e
entries Cut = Run.Cut

-- cut before the first call for which the stack would have too many words, and before the first birth for which the heap
-- would; these calls run, and the heap has `heap` words
abbrev pub entries_within : Limits → List ℕ → (heap : ℕ) → Trace → Lines Entry Ending
entries_within l calls heap (Turn t) = Run.Turn (entries_within l calls heap t)
entries_within l calls heap (Seen m t) = entries_within l calls heap t
entries_within l calls heap (End e) = Run.End e
entries_within l calls heap Cut = Run.Cut
entries_within l calls heap (Note (Call f) t) =
    if nat_le (used_by l calls + l.frame f) l.stack_max then Run.Line (Call f) (entries_within l (f ∷ calls) heap t) else Run.End (StackLimit (used_by l calls) (l.frame f) l.stack_max)
entries_within l calls heap (Note Return t) = Run.Line Return (entries_within l (tail_of calls) heap t)
entries_within l calls heap (Note (Born site n) t) =
    if l.on_heap site then (if nat_le (heap + n) l.heap_max then Run.Line (Born site n) (entries_within l calls (heap + n) t) else Run.End (HeapLimit heap n l.heap_max))
    else Run.Line (Born site n) (entries_within l calls heap t)
entries_within l calls heap (Note (Read v path n) t) = Run.Line (Read v path n) (entries_within l calls heap t)
entries_within l calls heap (Note (Write v path n) t) = Run.Line (Write v path n) (entries_within l calls heap t)
entries_within l calls heap (Note (Print bytes) t) = Run.Line (Print bytes) (entries_within l calls heap t)
entries_within l calls heap (Note Asked t) = Run.Line Asked (entries_within l calls heap t)

-- a bounded run: its journal, the output before each call of `readInt`, and its ending
pub record Meaning : Type 0 where
  pub journal : List Entry
  pub asks : List (List ℕ)
  pub ending : Ending

-- what an entry adds to the journal
abbrev pub with_entry : Entry → List Entry → List Entry
with_entry (Call f) es = Call f ∷ es
with_entry Return es = Return ∷ es
with_entry (Born site n) es = Born site n ∷ es
with_entry (Read v path n) es = Read v path n ∷ es
with_entry (Write v path n) es = Write v path n ∷ es
with_entry (Print bytes) es = Print bytes ∷ es
with_entry Asked es = es

abbrev pub journal_in : Outcome Entry Ending → List Entry
journal_in (Gives e o) = with_entry e (journal_in o)
journal_in (Ends e) = []
journal_in Unfinished = []

-- the bytes that an entry prints
abbrev pub bytes_in : Entry → List ℕ
bytes_in (Print bytes) = bytes
bytes_in e = []

-- the output before each call of `readInt`, after this output
abbrev pub with_ask : Entry → List ℕ → List (List ℕ) → List (List ℕ)
with_ask Asked before asks = before ∷ asks
with_ask e before asks = asks

abbrev pub asks_in : List ℕ → Outcome Entry Ending → List (List ℕ)
asks_in before (Gives e o) = with_ask e before (asks_in (before ++ bytes_in e) o)
asks_in before (Ends e) = []
asks_in before Unfinished = []

abbrev pub ending_of : Outcome Entry Ending → Ending
ending_of (Gives e o) = ending_of o
ending_of (Ends e) = e
ending_of Unfinished = Turns

abbrev pub meaning_of : Outcome Entry Ending → Meaning
meaning_of o = record { journal = journal_in o; asks = asks_in [] o; ending = ending_of o }

-- what a program does before turn n + 1
abbrev pub mean : (ℕ → Item) → Program → ℕ → Meaning
mean items p n = meaning_of (upto n (entries (trace items p n)))

-- the same under limits
abbrev pub capped : (ℕ → Item) → Program → Limits → ℕ → Meaning
capped items p l n = meaning_of (upto n (entries_within l [] 0 (trace items p n)))

-- the bytes that are printed, joined
abbrev pub printed : List Entry → List ℕ
printed [] = []
printed (e ∷ es) = bytes_in e ++ printed es
