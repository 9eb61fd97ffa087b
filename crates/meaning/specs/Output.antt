-- What a run shows to those outside: the printed pieces and the end, under limits.
use Rattle.std.specs.Prelude.{◌≡◌, ◌⊎◌, ℕ, ◌+◌, Bool, Option, Some, None, List, [], ◌∷◌, ◌++◌, nat_le, if◌then◌else◌}
use Rattle.typed_syntax.specs.Syntax.{Program}
use Rattle.meaning.specs.Trace.{Call, Return, Born, Read, Write, Print, Asked, Ending, StackLimit, HeapLimit, Trace, Turn, Note, Seen, End, Cut}
use Rattle.meaning.specs.Meaning.{Item, trace}
use Rattle.simulation.specs.Outcome as Run
use Rattle.simulation.specs.Outcome.{Lines, Outcome, Gives, Ends, Unfinished, upto}

-- the words of each function's frame, whether the variables of a site are on the heap, and the most words that the stack
-- and the heap may have
pub record Limits : Type 0 where
  pub frame : ℕ → ℕ
  pub on_heap : ℕ → Bool
  pub stack_max : ℕ
  pub heap_max : ℕ

-- the words of running calls
abbrev pub used_by : Limits → List ℕ → ℕ
used_by l [] = 0
used_by l (f ∷ calls) = l.frame f + used_by l calls

abbrev pub tail_of : List ℕ → List ℕ
tail_of [] = []
tail_of (f ∷ calls) = calls

-- what those outside see: bytes that are printed, and that an item of the input is asked for
pub data Sight : Type 0 where
  printing : (bytes : List ℕ) → Sight
  asking : Sight

-- how a run ends, and how many words of the heap are taken then
pub record Last : Type 0 where
  pub ending : Ending
  pub heap : ℕ

abbrev pub last : (heap : ℕ) → Ending → Last
last heap e = record { ending = e; heap = heap }

-- cut before the first call for which the stack would have too many words, and before the first birth for which the heap
-- would; these calls run, and the heap has `heap` words
abbrev pub out : Limits → List ℕ → (heap : ℕ) → Trace → Lines Sight Last
out l calls heap (Turn t) = Run.Turn (out l calls heap t)
out l calls heap (Seen m t) = out l calls heap t
out l calls heap (End e) = Run.End (last heap e)
out l calls heap Cut = Run.Cut
out l calls heap (Note (Print bytes) t) = Run.Line (printing bytes) (out l calls heap t)
out l calls heap (Note Asked t) = Run.Line asking (out l calls heap t)
out l calls heap (Note (Call f) t) = if nat_le (used_by l calls + l.frame f) l.stack_max then out l (f ∷ calls) heap t else Run.End (last heap (StackLimit (used_by l calls) (l.frame f) l.stack_max))
out l calls heap (Note Return t) = out l (tail_of calls) heap t
out l calls heap (Note (Born site n) t) =
    if l.on_heap site then (if nat_le (heap + n) l.heap_max then out l calls (heap + n) t else Run.End (last heap (HeapLimit heap n l.heap_max))) else out l calls heap t
out l calls heap (Note (Read v path n) t) = out l calls heap t
out l calls heap (Note (Write v path n) t) = out l calls heap t

-- what the source shows before turn n + 1, where these are the items of the input
abbrev pub source : (ℕ → Item) → Program → Limits → ℕ → Outcome Sight Last
source items p l n = upto n (out l [] 0 (trace items p n))

-- how a bounded run ends, if it does
abbrev pub ending_in : Outcome Sight Last → Option Ending
ending_in (Gives s o) = ending_in o
ending_in (Ends l) = Some l.ending
ending_in Unfinished = None

-- the bytes that a bounded run prints
abbrev pub output : Outcome Sight Last → List ℕ
output (Gives (printing bytes) o) = bytes ++ output o
output (Gives asking o) = output o
output (Ends e) = []
output Unfinished = []

-- a bounded run asks for an item after this output
abbrev pub AsksBehind : List ℕ → Outcome Sight Last → Type 0
AsksBehind before (Gives (printing bytes) o) = (rest : List ℕ) × (before ≡ bytes ++ rest) × AsksBehind rest o
AsksBehind before (Gives asking o) = (before ≡ []) ⊎ AsksBehind before o
AsksBehind before (Ends e) = ⊥
AsksBehind before Unfinished = ⊥
