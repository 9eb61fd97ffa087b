-- What the code of a program does, against what the program means.
use Rattle.std.specs.Prelude.{ℕ, ◌+◌, ◌*◌, ◌^◌, ◌≤◌, List, [], ◌∷◌, ◌++◌, length, replicate, slice_get, Option, Some, None, nat_le, if◌then◌else◌}
use Rattle.typed_syntax.specs.Value.{Value}
use Rattle.typed_syntax.specs.Words.{words_of}
use Rattle.typed_syntax.specs.Syntax.{Program}
use Rattle.frames.specs.Placement.{Placement, IsPlaced}
use Rattle.frames.specs.Frames.{frame_words}
use Rattle.meaning.specs.Meaning.{Item}
use Rattle.meaning.specs.Output.{Limits, source}
use Rattle.simulation.specs.Outcome.{Outcome, Ends, Unfinished, Below}
use Rattle.simulation.specs.Steps.{exec}
use Rattle.heap_bump.specs.Words.{Words}
use Rattle.isa.specs.Code.{Tables}
use Rattle.isa.specs.declared.func.Func.{Func as Entry}
use Rattle.machine.specs.Machine.{State, Event, Last, full_range, act}
use Rattle.machine.specs.declared.run_state.Ending.TheVariants as Machine
use Rattle.program_code.specs.Code.{code_of}
pub use Rattle.state_relation.specs.Alike.{same_event, same_fault, same_end, same_last, AreNumbers}
use Rattle.typed_syntax.specs.Form.{IsInForm}

-- the limits under which a program's source is taken, with a placement: the most words of the stack and of the heap
abbrev pub limits : Program → Placement → (stack_max heap_max : ℕ) → Limits
limits p l stack_max heap_max = record { frame = frame_words p l; on_heap = l.on_heap; stack_max = stack_max; heap_max = heap_max }

-- the words that each package variable begins with
abbrev pub first_words : List (ℕ × Value) → List (List ℕ)
first_words [] = []
first_words (g ∷ gs) = words_of g.1 ∷ first_words gs

-- a function is entered, with no words of the stack in use before, and with a heap
abbrev pub first_state : Entry → (stack_max : ℕ) → Words → State
first_state f stack_max heap = record { pc = f.start; range = full_range stack_max; words = replicate f.frame 0; reads = 0; heap = heap }

abbrev pub entered : Tables → (ℕ → Item) → (stack_max : ℕ) → Words → Option Entry → ℕ → Outcome Event Last
entered code items stack_max heap None k = Unfinished
entered code items stack_max heap (Some f) k =
    if nat_le f.frame stack_max then exec (act code stack_max items) k (first_state f stack_max heap) else Ends (record { ending = Machine.StackLimit 0 f.frame stack_max; heap = length heap.words })

-- The package variables come first: each takes the words that it begins with after those that were taken, and the first that has no room
-- finds the heap full. What follows is told the words of all.
abbrev pub begun : (max : ℕ) → (heap : List ℕ) → List (List ℕ) → (List ℕ → Outcome Event Last) → Outcome Event Last
begun max heap [] follow = follow heap
begun max heap (words ∷ more) follow =
    if nat_le (length heap + length words) max then begun max (heap ++ words) more follow else Ends (record { ending = Machine.HeapLimit (length heap) (length words) max; heap = length heap })

-- What the code shows in at most k instructions from the entry of the function `main`, where these are the items of the
-- input, and the stack has at most stack_max and the heap at most heap_max words
abbrev pub target : Tables → (ℕ → Item) → (globals : List (List ℕ)) → (main stack_max heap_max : ℕ) → ℕ → Outcome Event Last
target code items globals main stack_max heap_max k =
    begun heap_max [] globals (λ heap. entered code items stack_max (record { words = heap; max = heap_max }) (slice_get code.funcs main) k)

-- The machine holds a stack and a heap of at most 2 ^ 32 words each, so that addresses tell them apart. A turn is 1 to 16
-- instructions: what n turns show is shown by 16 * n instructions, and what k instructions show is
-- shown by k turns, and both end with as many words of the heap taken
pub record Simulated (p : Program) (l : Placement) (code : Tables) : Type 0 where
  pub at_least : (items : ℕ → Item) → AreNumbers items → (stack_max heap_max n k : ℕ) → stack_max ≤ 2 ^ 32 → heap_max ≤ 2 ^ 32 → 16 * n ≤ k
      → Below same_event (same_last p.strings) (source items p (limits p l stack_max heap_max) n) (target code items (first_words p.globals) p.main stack_max heap_max k)
  pub at_most : (items : ℕ → Item) → AreNumbers items → (stack_max heap_max k : ℕ) → stack_max ≤ 2 ^ 32 → heap_max ≤ 2 ^ 32
      → Below (λ d e. same_event e d) (λ d e. same_last p.strings e d) (target code items (first_words p.globals) p.main stack_max heap_max k) (source items p (limits p l stack_max heap_max) k)

-- the code of a program in form, with a placement that has rules, does what the program means
abbrev pub CodeSimulates : Type 0
CodeSimulates = (p : Program) (l : Placement) → IsInForm p → IsPlaced p l → Simulated p l (code_of p l)
