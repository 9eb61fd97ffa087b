-- The table of answers: when each comes, and what it leaves.
use Rattle.std.specs.Prelude.{◌≡◌, ◌⊎◌, ℕ, ◌≤◌, List, [], ◌∷◌, ◌++◌, Option, Some, None, codes}
use Rattle.limits.specs.Limits.{Bounds}
use Rattle.limits.specs.declared.limits.LimitFault.{LimitFault}
use Rattle.outside.specs.Causes.{Rose}
use Rattle.outside.specs.Files.{Content, Call, ReadOf, ReadsAs, Missing, Holds}
use Rattle.outside.specs.Took.{Took, TookPrefix}
use Rattle.typed_syntax.specs.Syntax.{Program}
use Rattle.meaning.specs.Trace as source
use Rattle.meaning.specs.Meaning.{Item}
use Rattle.meaning.specs.Output.{output, ending_in}
use Rattle.typed_syntax.specs.Positions.{Position}
use Rattle.gostk.specs.Answer.{status_of, line_of, reason_text, fault_text, panic_line, limits_line, steps_line, stack_line, heap_line}
use Rattle.machine.specs.declared.run_state.Panic.{Panic as MachinePanic}
use Rattle.simulated_code.specs.Correct.{same_fault}
use Rattle.compile.specs.Accepted.{Accepted}
use Rattle.gostk.specs.Programs.{EndsBy, PanicsBy, GoesOn, PrintedFront, PrintedPart, AsksInVain, AsksOnce, Begins, CameInOrder, Reading, Refuses, few_turns, all_turns}
use Rattle.gostk.specs.Refusal.{refusal_line}
use Rattle.gostk.specs.Words.{bounds_of, Asks, IsUsage, IsOffLimits, IsNoSource}
use Rattle.gostk.specs.declared.answer.Answer.{Answer}
use Rattle.gostk.specs.declared.answer.Answer.TheVariants.{Ended, Panicked, Usage, Limits, SourceOnly, Refused, ReadFault, WriteFault, Steps, StackLimit, HeapLimit, NoMemory}
use Rattle.gostk.specs.declared.refusal.Refusal.{Refusal}
use Rattle.gostk.specs.declared.words.WordsFault.{WordsFault}
use Rattle.gostk.specs.declared.words.WordsFault.TheVariants as words

-- what is seen of out, and of the input: its bytes left, and how often it failed
pub record Streams : Type 0 where
  pub taken : Option (List ℕ)
  pub faults : ℕ
  pub left : Option (List ℕ)
  pub read_faults : ℕ

abbrev pub streams : Option (List ℕ) → ℕ → Option (List ℕ) → ℕ → Streams
streams taken faults left read_faults = record { taken = taken; faults = faults; left = left; read_faults = read_faults }

-- what is seen of the files, of out and of the input
pub record Seen : Type 0 where
  pub content : List ℕ → Content
  pub failed : List Call
  pub io : Streams

abbrev pub seen : (List ℕ → Content) → List Call → Streams → Seen
seen content failed io = record { content = content; failed = failed; io = io }

-- the words run a file of source, which reads as this text
pub record Reads (content : List ℕ → Content) (words : List (List ℕ)) (path text : List ℕ) : Type 0 where
  pub asks : Asks words path
  pub read : ReadsAs (content path) text

-- the text is accepted with this program and no other
pub record IsTextOf (text : List ℕ) (program : Program) : Type 0 where
  pub accepted : Accepted text program
  pub only : (other : Program) → Accepted text other → program ≡ other

-- the text is not accepted
abbrev pub IsNoText : List ℕ → Type 0
IsNoText text = (program : Program) → Accepted text program → ⊥

-- out took nothing, and the input is as it was
pub record IsQuiet (old new : Streams) : Type 0 where
  pub out : Took old.taken new.taken []
  pub input : new.left ≡ old.left
  pub input_faults : new.read_faults ≡ old.read_faults

-- out took nothing, the input is as it was, and no call on the files failed
pub record IsUntouched (old new : Seen) : Type 0 where
  pub io : IsQuiet old.io new.io
  pub files : new.failed ≡ old.failed

-- the failed calls on the files gained just a read of the file that the words run
abbrev pub GainedRead : List Call → List Call → List (List ℕ) → Type 0
GainedRead old new words = (path : List ℕ) × Asks words path × (new ≡ old ++ ReadOf path ∷ [])

-- the words run a text that is accepted with this program, these answers came in order from the input, and no call on the
-- files failed
pub record IsRunOf (program : Program) (answers : List Item) (old new : Seen) (words : List (List ℕ)) : Type 0 where
  pub path : List ℕ
  pub text : List ℕ
  pub reads : Reads old.content words path text
  pub accepted : IsTextOf text program
  pub came : CameInOrder old.io.left answers
  pub files : new.failed ≡ old.failed

-- the file that the words run was not read: out took nothing, and the input is as it was
pub record FileFailed (old new : Seen) (words : List (List ℕ)) : Type 0 where
  pub gained : GainedRead old.failed new.failed words
  pub io : IsQuiet old.io new.io

-- the words run an accepted text, and the input failed where its program asks for an item; out took exactly what it prints
-- before that
pub record InputFailed (old new : Seen) (words : List (List ℕ)) : Type 0 where
  pub program : Program
  pub answers : List Item
  pub run : IsRunOf program answers old new words
  pub out : AsksInVain program (bounds_of words) answers old.io.taken new.io.taken old.io.read_faults new.io.read_faults

-- the words run an accepted text whose program asks for an item of the input
pub record RunsAsking (old new : Seen) (words : List (List ℕ)) : Type 0 where
  pub program : Program
  pub answers : List Item
  pub run : IsRunOf program answers old new words
  pub asks : AsksOnce program (bounds_of words) answers

-- what the call leaves with each answer, its report aside
abbrev pub Allowed : Seen → Seen → List (List ℕ) → Answer → Type 0
Allowed old new words (Ended status) =
    (p : Program) × (answers : List Item) × IsRunOf p answers old new words × EndsBy p (bounds_of words) answers (source.Exit status) old.io.taken new.io.taken × (status ≤ 125)
Allowed old new words (Panicked reason) =
    (p : Program) × (answers : List Item) × IsRunOf p answers old new words × PanicsBy p (bounds_of words) answers (reason_text reason) old.io.taken new.io.taken
Allowed old new words (Usage text) = IsUsage words × IsUntouched old new
Allowed old new words (Limits fault) = IsOffLimits words fault × IsUntouched old new
Allowed old new words SourceOnly = IsNoSource words × IsUntouched old new
Allowed old new words (Refused file refusal) =
    (text : List ℕ) × Reads old.content words file.now text × Refuses text refusal × IsNoText text × IsUntouched old new
Allowed old new words ReadFault = FileFailed old new words ⊎ InputFailed old new words
Allowed old new words WriteFault =
    (p : Program) × (answers : List Item) × IsRunOf p answers old new words × PrintedPart p (bounds_of words) answers old.io.taken new.io.taken old.io.faults new.io.faults
Allowed old new words (Steps n) =
    (p : Program) × (answers : List Item) × IsRunOf p answers old new words × GoesOn p (bounds_of words) answers old.io.taken new.io.taken × (n ≡ (bounds_of words).steps)
Allowed old new words (StackLimit used asked limit) =
    (p : Program) × (answers : List Item) × IsRunOf p answers old new words × EndsBy p (bounds_of words) answers (source.StackLimit used asked limit) old.io.taken new.io.taken
Allowed old new words (HeapLimit used asked limit) =
    (p : Program) × (answers : List Item) × IsRunOf p answers old new words × EndsBy p (bounds_of words) answers (source.HeapLimit used asked limit) old.io.taken new.io.taken
Allowed old new words NoMemory =
    IsUntouched old new ⊎ ((p : Program) × (answers : List Item) × IsRunOf p answers old new words × PrintedFront p (bounds_of words) answers old.io.taken new.io.taken)

-- the status is the answer's and err took its line, or err failed and took a prefix of it
abbrev pub Reported : Answer → ℕ → Option (List ℕ) → Option (List ℕ) → ℕ → ℕ → Type 0
Reported answer status err err' before now =
    ((status ≡ status_of answer) × Took err err' (line_of answer))
    ⊎ ((status ≡ 204) × Rose before now × TookPrefix err err' (line_of answer))

-- 0 to 125: the text is accepted, and within the turns its program ends with this status; out took exactly what it
-- prints, and err nothing
pub record Finished (status : ℕ) (old new : Seen) (words : List (List ℕ)) (err err' : Option (List ℕ)) : Type 0 where
  pub program : Program
  pub answers : List Item
  pub run : IsRunOf program answers old new words
  pub out : EndsBy program (bounds_of words) answers (source.Exit status) old.io.taken new.io.taken
  pub line : Took err err' []

-- 2, beside an exit with that status: the text is accepted, and within the turns its program panics, for the reason that the line
-- has; out took exactly what it prints
pub record HasPanicked (old new : Seen) (words : List (List ℕ)) (err err' : Option (List ℕ)) : Type 0 where
  pub program : Program
  pub answers : List Item
  pub text : List ℕ
  pub run : IsRunOf program answers old new words
  pub out : PanicsBy program (bounds_of words) answers text old.io.taken new.io.taken
  pub line : Took err err' (panic_line text)

abbrev pub FinishedOrPanicked : (status : ℕ) → Seen → Seen → List (List ℕ) → Option (List ℕ) → Option (List ℕ) → Type 0
FinishedOrPanicked status old new words err err' = Finished status old new words err err' ⊎ ((status ≡ 2) × HasPanicked old new words err err')

-- 200: clap refuses the words, and its text is shown; or the numbers of the options are no limits, or the file is not
-- source, and the line says so
pub record WordsRefused (old new : Seen) (words : List (List ℕ)) (err err' : Option (List ℕ)) : Type 0 where
  pub reason : (IsUsage words × ((text : List ℕ) × Took err err' text))
      ⊎ (((fault : LimitFault) × IsOffLimits words fault × Took err err' (limits_line fault))
      ⊎ (IsNoSource words × Took err err' (codes "gostk: source only\n")))
  pub untouched : IsUntouched old new

-- 201: the text is not accepted, and the line shows the fault for which it is refused
pub record TextRefused (old new : Seen) (words : List (List ℕ)) (err err' : Option (List ℕ)) : Type 0 where
  pub path : List ℕ
  pub text : List ℕ
  pub refusal : Refusal
  pub reads : Reads old.content words path text
  pub refused : Refuses text refusal
  pub unaccepted : IsNoText text
  pub untouched : IsUntouched old new
  pub line : Took err err' (refusal_line path refusal)

-- 203: the failed calls on the files gained the read of the file that the words run; or the input failed where the program of
-- an accepted text asks for an item, and out took exactly what it prints before that
pub record ReadFailed (old new : Seen) (words : List (List ℕ)) (err err' : Option (List ℕ)) : Type 0 where
  pub cause : FileFailed old new words ⊎ InputFailed old new words
  pub line : Took err err' (codes "gostk: read fault\n")

-- out failed: its count rose, and it took all that the program of an accepted text prints before a piece, and a front of the
-- piece, but not all of it
pub record OutFailed (old new : Seen) (words : List (List ℕ)) (err err' : Option (List ℕ)) : Type 0 where
  pub program : Program
  pub answers : List Item
  pub run : IsRunOf program answers old new words
  pub out : PrintedPart program (bounds_of words) answers old.io.taken new.io.taken old.io.faults new.io.faults
  pub line : Took err err' (codes "gostk: write fault\n")

-- err failed: its count rose, and it took a prefix of the line of an answer that is allowed here
pub record ErrFailed (old new : Seen) (words : List (List ℕ)) (err err' : Option (List ℕ)) (before now : ℕ) : Type 0 where
  pub answer : Answer
  pub allowed : Allowed old new words answer
  pub rose : Rose before now
  pub line : TookPrefix err err' (line_of answer)

-- 204: out failed, or err
abbrev pub WriteFailed : Seen → Seen → List (List ℕ) → Option (List ℕ) → Option (List ℕ) → ℕ → ℕ → Type 0
WriteFailed old new words err err' before now = OutFailed old new words err err' ⊎ ErrFailed old new words err err' before now

-- 205: the program of an accepted text goes on beyond a sixteenth of the turns, and out took what it prints up to there
-- or more, but nothing that it doesn't print within all of them
pub record StepsPassed (old new : Seen) (words : List (List ℕ)) (err err' : Option (List ℕ)) : Type 0 where
  pub program : Program
  pub answers : List Item
  pub run : IsRunOf program answers old new words
  pub out : GoesOn program (bounds_of words) answers old.io.taken new.io.taken
  pub line : Took err err' (steps_line (bounds_of words).steps)

-- 207: the program of an accepted text ends at the limit of the stack, counted by its source; the line has the words in
-- use, those asked for, and the limit, and out took exactly what it prints up to there
pub record StackPassed (old new : Seen) (words : List (List ℕ)) (err err' : Option (List ℕ)) : Type 0 where
  pub program : Program
  pub answers : List Item
  pub used : ℕ
  pub asked : ℕ
  pub limit : ℕ
  pub run : IsRunOf program answers old new words
  pub out : EndsBy program (bounds_of words) answers (source.StackLimit used asked limit) old.io.taken new.io.taken
  pub line : Took err err' (stack_line used asked limit)

-- 206: the same of the heap
pub record HeapPassed (old new : Seen) (words : List (List ℕ)) (err err' : Option (List ℕ)) : Type 0 where
  pub program : Program
  pub answers : List Item
  pub used : ℕ
  pub asked : ℕ
  pub limit : ℕ
  pub run : IsRunOf program answers old new words
  pub out : EndsBy program (bounds_of words) answers (source.HeapLimit used asked limit) old.io.taken new.io.taken
  pub line : Took err err' (heap_line used asked limit)

-- 209: nothing was written but the line; or the text is accepted, and out took a front part of what its program prints
pub record MemoryRefused (old new : Seen) (words : List (List ℕ)) (err err' : Option (List ℕ)) : Type 0 where
  pub when : IsUntouched old new ⊎ ((p : Program) × (answers : List Item) × IsRunOf p answers old new words × PrintedFront p (bounds_of words) answers old.io.taken new.io.taken)
  pub line : Took err err' (codes "gostk: no memory\n")

-- the status is this one, or err failed
abbrev pub Comes : ℕ → ℕ → ℕ → ℕ → Type 0
Comes wanted status before now = (status ≡ wanted) ⊎ ((status ≡ 204) × Rose before now)

-- the words don't run a file of source under limits
abbrev pub IsWrong : List (List ℕ) → Type 0
IsWrong words = (path : List ℕ) → Asks words path → ⊥

-- the words run a file of source that is missing
abbrev pub IsMissing : (List ℕ → Content) → List (List ℕ) → Type 0
IsMissing content words = (path : List ℕ) × Asks words path × (content path ≡ Missing)

-- the words run a file of source whose text is not accepted
abbrev pub IsUnaccepted : (List ℕ → Content) → List (List ℕ) → Type 0
IsUnaccepted content words = (path : List ℕ) × (text : List ℕ) × Asks words path × (content path ≡ Holds text) × IsNoText text

-- nothing of the files, the input, out and err failed
pub record IsCalm (old new : Seen) (before now : ℕ) : Type 0 where
  pub files : new.failed ≡ old.failed
  pub input : Rose old.io.read_faults new.io.read_faults → ⊥
  pub out : Rose old.io.faults new.io.faults → ⊥
  pub err : Rose before now → ⊥

-- the program ends in a sixteenth of the turns, so it does here: with its status, with all that it prints and no line
abbrev pub EndsHere : Program → Bounds → List Item → Seen → Seen → ℕ → Option (List ℕ) → Option (List ℕ) → Type 0
EndsHere p b answers old new status err err' =
    (r : Reading) → Begins answers r → (n : ℕ) → ending_in (few_turns p b r) ≡ Some (source.Exit n)
    → ((status ≡ n) × Took old.io.taken new.io.taken (output (few_turns p b r)) × Took err err' []) ⊎ (status ≡ 209)

-- the program panics in a sixteenth of the turns, so it does here
abbrev pub PanicsHere : Program → Bounds → List Item → Seen → Seen → ℕ → Option (List ℕ) → Option (List ℕ) → Type 0
PanicsHere p b answers old new status err err' =
    (r : Reading) → Begins answers r → (at : Position) (f : source.Fault) → ending_in (few_turns p b r) ≡ Some (source.Panic at f)
    → ((status ≡ 2) × Took old.io.taken new.io.taken (output (few_turns p b r)) × Took err err' (panic_line (fault_text f))) ⊎ (status ≡ 209)

-- the program meets the limit of the stack in a sixteenth of the turns, so it does here
abbrev pub MeetsLimit : Program → Bounds → List Item → Seen → Seen → ℕ → Option (List ℕ) → Option (List ℕ) → Type 0
MeetsLimit p b answers old new status err err' =
    (r : Reading) → Begins answers r → (used asked limit : ℕ) → ending_in (few_turns p b r) ≡ Some (source.StackLimit used asked limit)
    → ((status ≡ 207) × Took old.io.taken new.io.taken (output (few_turns p b r)) × Took err err' (stack_line used asked limit)) ⊎ (status ≡ 209)

-- the program meets the limit of the heap in a sixteenth of the turns, so it does here
abbrev pub FillsHeap : Program → Bounds → List Item → Seen → Seen → ℕ → Option (List ℕ) → Option (List ℕ) → Type 0
FillsHeap p b answers old new status err err' =
    (r : Reading) → Begins answers r → (used asked limit : ℕ) → ending_in (few_turns p b r) ≡ Some (source.HeapLimit used asked limit)
    → ((status ≡ 206) × Took old.io.taken new.io.taken (output (few_turns p b r)) × Took err err' (heap_line used asked limit)) ⊎ (status ≡ 209)

-- the program goes on beyond all turns, so it is stopped here
abbrev pub StopsHere : Program → Bounds → List Item → ℕ → Option (List ℕ) → Option (List ℕ) → Type 0
StopsHere p b answers status err err' =
    (r : Reading) → Begins answers r → ending_in (all_turns p b r) ≡ None
    → ((status ≡ 205) × Took err err' (steps_line b.steps)) ⊎ (status ≡ 209)

-- what comes where a text is accepted and nothing fails, by the answers that came in order from the input
pub record Does (p : Program) (b : Bounds) (old new : Seen) (status : ℕ) (err err' : Option (List ℕ)) : Type 0 where
  pub answers : List Item
  pub came : CameInOrder old.io.left answers
  pub ends : EndsHere p b answers old new status err err'
  pub panics : PanicsHere p b answers old new status err err'
  pub meets : MeetsLimit p b answers old new status err err'
  pub fills : FillsHeap p b answers old new status err err'
  pub stops : StopsHere p b answers status err err'

abbrev pub Completes : Seen → Seen → List (List ℕ) → ℕ → Option (List ℕ) → Option (List ℕ) → ℕ → ℕ → Type 0
Completes old new words status err err' before now =
    (path text : List ℕ) (program : Program) → Asks words path → old.content path ≡ Holds text → Accepted text program → IsCalm old new before now
    → Does program (bounds_of words) old new status err err'

-- what a run of the program leaves, by its answer and the answers that came from the input
abbrev pub Ran : Program → Bounds → List Item → Answer → Streams → Streams → Type 0
Ran p b answers (Ended status) old new = EndsBy p b answers (source.Exit status) old.taken new.taken × (status ≤ 125)
Ran p b answers (Panicked reason) old new = PanicsBy p b answers (reason_text reason) old.taken new.taken
Ran p b answers (Steps n) old new = GoesOn p b answers old.taken new.taken × (n ≡ b.steps)
Ran p b answers (StackLimit used asked limit) old new = EndsBy p b answers (source.StackLimit used asked limit) old.taken new.taken
Ran p b answers (HeapLimit used asked limit) old new = EndsBy p b answers (source.HeapLimit used asked limit) old.taken new.taken
Ran p b answers ReadFault old new = AsksInVain p b answers old.taken new.taken old.read_faults new.read_faults
Ran p b answers WriteFault old new = PrintedPart p b answers old.taken new.taken old.faults new.faults
Ran p b answers NoMemory old new = PrintedFront p b answers old.taken new.taken
Ran p b answers answer old new = ⊥

-- the same, by the answers that came in order
pub record RanBy (p : Program) (b : Bounds) (answer : Answer) (old new : Streams) : Type 0 where
  pub answers : List Item
  pub came : CameInOrder old.left answers
  pub leaves : Ran p b answers answer old new

-- what a run of a text leaves, by its answer
abbrev pub RanText : (file text : List ℕ) → Bounds → Answer → Streams → Streams → Type 0
RanText file text b (Refused name refusal) old new = (name.now ≡ file) × Refuses text refusal × IsNoText text × IsQuiet old new
RanText file text b NoMemory old new = IsQuiet old new ⊎ ((p : Program) × IsTextOf text p × RanBy p b NoMemory old new)
RanText file text b answer old new = (p : Program) × IsTextOf text p × RanBy p b answer old new

-- within the turns the program asks for an item of the input, whatever begins with the answers that came in order
pub record Asking (p : Program) (b : Bounds) (left : Option (List ℕ)) : Type 0 where
  pub answers : List Item
  pub came : CameInOrder left answers
  pub asks : AsksOnce p b answers

-- what a panic comes to: it has the text that any panic of the source has that is the same; or memory was refused
abbrev pub Tells : MachinePanic → List (List ℕ) → Answer → Type 0
Tells x strings (Panicked reason) = (f : source.Fault) → same_fault strings f x → fault_text f ≡ reason_text reason
Tells x strings NoMemory = Unit {0}
Tells x strings answer = ⊥

-- what words that are refused come to
abbrev pub words_answer : WordsFault → Answer
words_answer words.NoMemory = NoMemory
words_answer (words.Usage text) = Usage text
words_answer (words.Limits fault) = Limits fault
words_answer words.SourceOnly = SourceOnly
