-- Steps were done with the items that were read, and out took what they print; or a device failed in one, or memory was refused to one.
use Rattle.std.specs.Prelude.{◌≡◌, ◌≢◌, ◌⊎◌, ℕ, suc, ◌+◌, ◌*◌, ◌<◌, ◌≤◌, ⊤, List, [], ◌∷◌, ◌++◌, length, drop, Bool, true, false, Option, Some, None, Result, Ok, Err, IsTrue, slice_get, slice_index, IfSome, FitsSigned}
use Rattle.std.specs.Int.{w64}
use Rattle.outside.specs.Causes.{Rose}
use Rattle.outside.specs.Items.{Reads, Loses}
use Rattle.outside.specs.Took.{Took, TookPrefix}
use Rattle.simulation.specs.Steps.{Goes, Stops, events_of, many}
use Rattle.heap_bump.specs.Words.{Words}
use Rattle.isa.specs.Code.{Tables}
use Rattle.isa.specs.declared.instr.Added.{Added}
use Rattle.isa.specs.declared.instr.Added.TheVariants.{Slots, Slice as OfSlice}
use Rattle.isa.specs.declared.instr.Instr.{Instr}
use Rattle.isa.specs.declared.instr.Instr.TheVariants.{Call, Alloc, Make, Append}
use Rattle.machine.specs.Machine.{Range, State, Event, Printed, Asked, Item, Does, full_range, last_of, stops, act, prints, bytes_of, asks_in, frame_of, are_sizes, grown, renews}
use Rattle.machine.specs.declared.run_state.Next.{Next}
use Rattle.machine.specs.declared.run_state.RunState.{RunState}
use Rattle.machine.specs.declared.run_state.Ending.{Ending}
use Rattle.machine.specs.declared.run_state.Ending.TheVariants.{Exit, ReadFault, WriteFault, NoMemory, HeapLimit, WildAddress}

-- the state whose frame begins at an index of a block of words, in a stack that lies there, where `reads` items were read before, with a
-- heap
abbrev pub state_of : Range → List ℕ → RunState → ℕ → Words → State
state_of range block at reads heap = record { pc = at.pc; range = range; words = drop at.base block; reads = reads; heap = heap }

abbrev pub printed_by : Does → List ℕ
printed_by d = bytes_of (events_of d)

-- after `answered` items another one is asked for, and out took what is printed up to there
pub record AskedBehind (d : Does) (answered : ℕ) (old new : Option (List ℕ)) : Type 0 where
  pub before : List Event
  pub after : List Event
  pub splits : before ++ (Asked ∷ after) ≡ events_of d
  pub asked : asks_in before ≡ answered
  pub took : Took old new (bytes_of before)

-- after `answered` items were asked for a piece is printed, and out took what is printed up to there and a front of the piece, but
-- not all of it
pub record PrintedInPart (d : Does) (answered : ℕ) (old new : Option (List ℕ)) : Type 0 where
  pub before : List Event
  pub front : List ℕ
  pub rest : List ℕ
  pub after : List Event
  pub splits : before ++ (Printed (front ++ rest) ∷ after) ≡ events_of d
  pub short : 0 < length rest
  pub asked : asks_in before ≡ answered
  pub took : Took old new (bytes_of before ++ front)

-- what steps come to, for which `answered` items were read, against an answer and the state in it, the bytes that a sink has
-- taken, and its counts of faults
abbrev pub Answers : Does → State → (answered : ℕ) → Option Ending → Option (List ℕ) → Option (List ℕ) → ℕ → ℕ → Type 0
Answers d s answered (Some ReadFault) old new before now = AskedBehind d answered old new
Answers d s answered (Some WriteFault) old new before now = PrintedInPart d answered old new × Rose before now
Answers d s answered (Some NoMemory) old new before now = TookPrefix old new (printed_by d) × (answered ≤ asks_in (events_of d))
Answers d s answered None old new before now = (d ≡ Goes (events_of d) s) × Took old new (printed_by d) × (asks_in (events_of d) ≡ answered)
Answers d s answered (Some e) old new before now = (d ≡ Stops (events_of d) (last_of s e)) × Took old new (printed_by d) × (asks_in (events_of d) ≡ answered)

-- what comes of a step that tells nothing
abbrev pub Comes : Does → State → Option Ending → Type 0
Comes d s (Some ReadFault) = ⊥
Comes d s (Some WriteFault) = ⊥
Comes d s (Some NoMemory) = ⊤
Comes d s None = d ≡ Goes [] s
Comes d s (Some e) = d ≡ stops s e

-- the same of a step from a place in a block to the one in the answer, in a stack that lies there, whatever was read and is in the heap
abbrev pub ComesTo : Range → (State → Does) → (old : List ℕ) → RunState → (new : List ℕ) → Next → Type 0
ComesTo range does old at new next = (reads : ℕ) (heap : Words) → Comes (does (state_of range old at reads heap)) (state_of range new next.at reads heap) next.ending

-- the same of a step that reaches the heap
abbrev pub ComesWith : Range → (State → Does) → (old : List ℕ) → (heap : Words) → RunState → (new : List ℕ) → (heap' : Words) → Next → Type 0
ComesWith range does old heap at new heap' next = (reads : ℕ) → Comes (does (state_of range old at reads heap)) (state_of range new next.at reads heap') next.ending

-- what comes of a touch of words from an address on, which lie somewhere or not
abbrev pub touched : Bool → State → ℕ → Does
touched true s at = Goes [] s
touched false s at = stops s (WildAddress at)

-- the same of a touch in a frame at an index of a block
abbrev pub TouchComes : Range → (State → Does) → (base at : ℕ) → (old : List ℕ) → (heap : Words) → (new : List ℕ) → (heap' : Words) → Bool → Type 0
TouchComes range does base at old heap new heap' found =
    (pc reads : ℕ) → does (state_of range old (record { pc = pc; base = base }) reads heap) ≡ touched found (state_of range new (record { pc = pc + 1; base = base }) reads heap') at

-- how a step answers that prints a piece
abbrev pub PrintsAt : List ℕ → RunState → (piece : List ℕ) → Next → (old new : Option (List ℕ)) → (before now : ℕ) → Type 0
PrintsAt words at piece next old new before now =
    (range : Range) (reads : ℕ) (heap : Words) → Answers (prints (state_of range words at reads heap) piece) (state_of range words next.at reads heap) 0 next.ending old new before now

-- these answers came in order from a reader, in front of which stood the old bytes, and after them the new ones
abbrev pub ReadInOrder : Option (List ℕ) → Option (List ℕ) → List Item → Type 0
ReadInOrder old new [] = new ≡ old
ReadInOrder old new (answer ∷ answers) = (next : Option (List ℕ)) × Reads old next answer × ReadInOrder next new answers

-- the same, and after them came a read that failed, where the ending says so
abbrev pub ReadsUpTo : Option Ending → Option (List ℕ) → Option (List ℕ) → List Item → Type 0
ReadsUpTo (Some ReadFault) old new answers = (next : Option (List ℕ)) × ReadInOrder old next answers × Loses next new
ReadsUpTo ending old new answers = ReadInOrder old new answers

-- from a number on the items of the input are these
abbrev pub HasFrom : (ℕ → Item) → ℕ → List Item → Type 0
HasFrom items number [] = ⊤
HasFrom items number (answer ∷ answers) = (items number ≡ answer) × HasFrom items (suc number) answers

-- each number that came is one of 64 bits with a sign
abbrev pub AllNumbers : List Item → Type 0
AllNumbers [] = ⊤
AllNumbers (answer ∷ answers) = IfSome answer (FitsSigned w64) × AllNumbers answers

-- What was read, and what was done with it. All that is known of the items of the input are the answers of the reader: so
-- for whatever items have them from the number of reads on, and for any such number, a claim holds that is also told how
-- many answers there are. Where there are none, and no read failed, the reader and the source are as before.
pub record WithAnswers (ending : Option Ending) (old new : Option (List ℕ)) (untouched : Type 0) (claim : (ℕ → Item) → ℕ → ℕ → Type 0) : Type 0 where
  pub answers : List Item
  pub numbers : AllNumbers answers
  pub read : ReadsUpTo ending old new answers
  pub unread : ending ≢ Some ReadFault → answers ≡ [] → untouched
  pub does : (items : ℕ → Item) (reads : ℕ) → HasFrom items reads answers → claim items reads (length answers)

-- a program that ended by itself has a status that a process can end with
abbrev pub StatusFits : Option Ending → Type 0
StatusFits (Some (Exit status)) = status ≤ 125
StatusFits _ = ⊤

-- so many words more may be taken of a heap
abbrev pub Fit : Words → (count : ℕ) → Type 0
Fit heap count = length heap.words + count ≤ heap.max

-- a slice has no room for `count` elements of w words more, and the heap has some for the array that it then needs
abbrev pub GrowthFits : Words → (long capacity count w : ℕ) → Type 0
GrowthFits heap long capacity count w = (capacity < long + count) × Fit heap (grown (long + count) capacity * w)

-- how many elements an append adds
abbrev pub added_count : (stack : List ℕ) → Added → (c d : ℕ) → ℕ
added_count stack Slots c d = d
added_count stack OfSlice c d = slice_index stack (c + 1)

abbrev pub AppendNeeds : (stack : List ℕ) → Words → Added → (b c d w : ℕ) → Type 0
AppendNeeds stack heap added b c d w =
    let long = slice_index stack (b + 1) in let capacity = slice_index stack (b + 2) in
    IsTrue (are_sizes long capacity) × GrowthFits heap long capacity (added_count stack added c d) w

-- an instruction needs memory, and a limit allows it: a call whose frame the stack may have below its words, and an instruction that
-- takes words of the heap
abbrev pub Needs : Tables → (max : ℕ) → (stack : List ℕ) → Words → Instr → Type 0
Needs t max stack heap (Call g) = length stack + frame_of t g ≤ max
Needs t max stack heap (Alloc a n site) = Fit heap n
Needs t max stack heap (Make a w site) = IsTrue (are_sizes (slice_index stack (a + 1)) (slice_index stack (a + 2))) × Fit heap (slice_index stack (a + 2) * w)
Needs t max stack heap (Append added a b c d w site) = AppendNeeds stack heap added b c d w
Needs t max stack heap _ = ⊥

-- at a place stands such an instruction
abbrev pub NeedsMemory : Tables → (max pc : ℕ) → (stack : List ℕ) → Words → Type 0
NeedsMemory t max pc stack heap = (i : Instr) × (slice_get t.instrs pc ≡ Some i) × Needs t max stack heap i

-- a call there has no room below an index of the block
abbrev pub NoRoom : Tables → RunState → Type 0
NoRoom t at = (g : ℕ) → slice_get t.instrs at.pc ≡ Some (Call g) → at.base < frame_of t g

-- how a run ends that gets no `count` words of a heap
abbrev pub TakeEnds : Words → (count : ℕ) → Ending → Type 0
TakeEnds heap count e =
    ((heap.max < length heap.words + count) × (e ≡ HeapLimit (length heap.words) count heap.max)) ⊎ (Fit heap count × (e ≡ NoMemory))

-- an array was taken and the old elements moved to it, whatever is done then; or the run ends so
abbrev pub Renewed : Range → (first long capacity w : ℕ) → (stack : List ℕ) → (heap heap' : Words) → Result ℕ Ending → Type 0
Renewed range first long capacity w stack heap heap' (Ok at) =
    (pc reads : ℕ) (does : State → Does)
    → renews (record { pc = pc; range = range; words = stack; reads = reads; heap = heap }) first long capacity w does ≡ does (record { pc = pc; range = range; words = stack; reads = reads; heap = heap' })
Renewed range first long capacity w stack heap heap' (Err e) =
    (pc reads : ℕ) (does : State → Does) (s : State) → s.heap ≡ heap' → Comes (renews (record { pc = pc; range = range; words = stack; reads = reads; heap = heap }) first long capacity w does) s (Some e)

-- After `done` steps stands an instruction whose bytes the sink refused in part: out took all that these steps print, and a
-- front of what the instruction prints. What was read are the items that the steps and the instruction ask for.
pub record Unwritten (t : Tables) (max : ℕ) (items : ℕ → Item) (steps : ℕ) (first : State) (answered : ℕ) (old new : Option (List ℕ)) : Type 0 where
  pub done : ℕ
  pub before : done < steps
  pub told : List Event
  pub state : State
  pub whole : many (act t max items) done first ≡ Goes told state
  pub front : List ℕ
  pub rest : List ℕ
  pub prints : front ++ rest ≡ printed_by (act t max items state)
  pub took : Took old new (bytes_of told ++ front)
  pub at_least : asks_in told ≤ answered
  pub at_most : answered ≤ asks_in told + asks_in (events_of (act t max items state))

-- after `done` steps, for which `answered` items were read, stands an instruction to which memory was refused that it needs, and
-- out took what they print
pub record Refused (t : Tables) (max : ℕ) (items : ℕ → Item) (steps : ℕ) (first : State) (answered : ℕ) (old new : Option (List ℕ)) : Type 0 where
  pub done : ℕ
  pub before : done < steps
  pub told : List Event
  pub state : State
  pub whole : many (act t max items) done first ≡ Goes told state
  pub needs : NeedsMemory t max state.pc state.words state.heap
  pub asked : asks_in told ≡ answered
  pub took : Took old new (bytes_of told)

-- how a run of steps answers that begins and goes on at these places of a block
abbrev pub RunAnswers : Tables → (max steps : ℕ) → List ℕ → Words → RunState → List ℕ → Words → RunState → Option Ending → (old new : Option (List ℕ)) → (before now : ℕ) → (ℕ → Item) → (reads answered : ℕ) → Type 0
RunAnswers t max steps block0 heap0 at0 block heap at e old new before now items reads answered =
    Answers (many (act t max items) steps (state_of (full_range max) block0 at0 reads heap0)) (state_of (full_range max) block at (reads + answered) heap) answered e old new before now
    × (e ≡ Some NoMemory → Refused t max items steps (state_of (full_range max) block0 at0 reads heap0) answered old new)
    × (e ≡ Some WriteFault → Unwritten t max items steps (state_of (full_range max) block0 at0 reads heap0) answered old new)
