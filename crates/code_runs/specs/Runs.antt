-- How a run answered, against what the source shows.
use Rattle.std.specs.Prelude.{◌≡◌, ◌≢◌, ◌⊎◌, ℕ, zero, suc, ◌/◌, ◌<◌, ◌≤◌, List, [], ◌++◌, length, get_or, Option, Some, None, Result, Ok, Err}
use Rattle.outside.specs.Causes.{Rose}
use Rattle.outside.specs.Took.{Took, TookPrefix}
use Rattle.typed_syntax.specs.Positions.{Position}
use Rattle.typed_syntax.specs.Syntax.{Program}
use Rattle.typed_syntax.specs.Types.{TypeTree, ints}
use Rattle.typed_syntax.specs.Words.{words_of}
use Rattle.typed.specs.declared.expr.Const.{Const}
use Rattle.typed.specs.declared.program.PackageVariable.{PackageVariable}
use Rattle.typed.specs.View.{first_value, value_of}
use Rattle.meaning.specs.Trace.{Ending, Exit, Panic, StackLimit, HeapLimit, Fault}
use Rattle.meaning.specs.Meaning.{Item}
use Rattle.frames.specs.Placement.{coarse}
use Rattle.meaning.specs.Output.{Sight, Last, printing, asking, source, output, ending_in}
use Rattle.simulation.specs.Outcome.{Outcome, Gives, Ends, Unfinished}
use Rattle.heap_bump.specs.Words.{with_word}
use Rattle.machine.specs.Machine.{Event, Last as Halt}
use Rattle.machine.specs.Answers.{AllNumbers, ReadInOrder, HasFrom}
use Rattle.machine.specs.declared.run_state.Ending.{Ending as Stop}
use Rattle.machine.specs.declared.run_state.Ending.TheVariants as Machine
use Rattle.program_code.specs.Code.{word_of}
use Rattle.simulated_code.specs.Correct.{AreNumbers, begun, limits, same_fault}
use Rattle.code_runs.specs.declared.running.RunFault.{RunFault}
use Rattle.code_runs.specs.declared.running.RunFault.TheVariants as fault

-- what was taken begins with the one text and is the beginning of the other
pub record Between (few many : List ℕ) (old new : Option (List ℕ)) : Type 0 where
  pub bytes : List ℕ
  pub took : Took old new bytes
  pub begins : (rest : List ℕ) × (few ++ rest ≡ bytes)
  pub within : (rest : List ℕ) × (bytes ++ rest ≡ many)

-- how often a bounded run asks for an item
abbrev pub asks_of : Outcome Sight Last → ℕ
asks_of (Gives (printing bytes) o) = asks_of o
asks_of (Gives asking o) = suc (asks_of o)
asks_of (Ends e) = 0
asks_of Unfinished = 0

-- a bounded run asks for the item of this number after this output
abbrev pub AsksFor : ℕ → List ℕ → Outcome Sight Last → Type 0
AsksFor k before (Gives (printing bytes) o) = (rest : List ℕ) × (before ≡ bytes ++ rest) × AsksFor k rest o
AsksFor zero before (Gives asking o) = before ≡ []
AsksFor (suc k) before (Gives asking o) = AsksFor k before o
AsksFor k before (Ends e) = ⊥
AsksFor k before Unfinished = ⊥

-- a text is a front of a piece, but not all of it
abbrev pub IsShortOf : (text piece : List ℕ) → Type 0
IsShortOf text piece = (rest : List ℕ) × (text ++ rest ≡ piece) × (0 < length rest)

-- after it asked for k items, a bounded run prints a piece, and this text is what it prints before and a front of the piece, but
-- not all of it
abbrev pub PrintsInPart : ℕ → List ℕ → Outcome Sight Last → Type 0
PrintsInPart k text (Gives (printing bytes) o) = ((k ≡ 0) × IsShortOf text bytes) ⊎ ((rest : List ℕ) × (text ≡ bytes ++ rest) × PrintsInPart k rest o)
PrintsInPart zero text (Gives asking o) = ⊥
PrintsInPart (suc k) text (Gives asking o) = PrintsInPart k text o
PrintsInPart k text (Ends e) = ⊥
PrintsInPart k text Unfinished = ⊥

-- How a run answered, for which `answered` items were read, against what the source shows in few turns and in
-- many: the ending of the many, with all its output and all the items that it asks for; no ending in the few, and an output
-- and items between both; a fault of the input, at an item that the source asks for after just what was taken; one of the sink,
-- at a piece that the source prints after the items that were read, of which a part was taken and all that is printed before;
-- or one of memory.
abbrev pub Ran : (strings : List (List ℕ)) → (few many : Outcome Sight Last) → Result ℕ RunFault → (answered : ℕ) → (old new : Option (List ℕ)) → (before now : ℕ) → Type 0
Ran strings few many (Ok status) answered old new before now = (ending_in many ≡ Some (Exit status)) × Took old new (output many) × (asks_of many ≡ answered)
Ran strings few many (Err (fault.Panic x)) answered old new before now =
    (at : Position) × (f : Fault) × (ending_in many ≡ Some (Panic at f)) × same_fault strings f x × Took old new (output many) × (asks_of many ≡ answered)
Ran strings few many (Err (fault.StackLimit used asked limit)) answered old new before now =
    (ending_in many ≡ Some (StackLimit used asked limit)) × Took old new (output many) × (asks_of many ≡ answered)
Ran strings few many (Err (fault.HeapLimit used asked limit)) answered old new before now =
    (ending_in many ≡ Some (HeapLimit used asked limit)) × Took old new (output many) × (asks_of many ≡ answered)
Ran strings few many (Err fault.Steps) answered old new before now =
    (ending_in few ≡ None) × Between (output few) (output many) old new × (asks_of few ≤ answered) × (answered ≤ asks_of many)
Ran strings few many (Err fault.ReadFault) answered old new before now = (text : List ℕ) × AsksFor answered text many × Took old new text
Ran strings few many (Err fault.WriteFault) answered old new before now = (text : List ℕ) × PrintsInPart answered text many × Took old new text × Rose before now
Ran strings few many (Err fault.NoMemory) answered old new before now = TookPrefix old new (output many) × (answered ≤ asks_of many)

-- the same of a program's source under these limits, in a sixteenth of `steps` turns and in as many
abbrev pub RanUnder : Program → (stack_max heap_max steps : ℕ) → Result ℕ RunFault → (old new : Option (List ℕ)) → (before now : ℕ) → (ℕ → Item) → (answered : ℕ) → Type 0
RanUnder p stack_max heap_max steps result old new before now items answered =
    Ran p.strings (source items p (limits p (coarse p) stack_max heap_max) (steps / 16)) (source items p (limits p (coarse p) stack_max heap_max) steps) result answered old new before now

-- What a run read of an input with these bytes left, and what it did. All that is known of the items of the input are the
-- answers that came in order: so for whatever items, numbers of 64 bits, begin with them, a claim holds that is also told how
-- many answers there are. Where there are none, and no read failed, the input is as before.
pub record ReadBy (result : Result ℕ RunFault) (left : Option (List ℕ)) (untouched : Type 0) (claim : (ℕ → Item) → ℕ → Type 0) : Type 0 where
  pub answers : List Item
  pub numbers : AllNumbers answers
  pub rest : Option (List ℕ)
  pub read : ReadInOrder left rest answers
  pub unread : result ≢ Err fault.ReadFault → answers ≡ [] → untouched
  pub does : (items : ℕ → Item) → AreNumbers items → HasFrom items 0 answers → claim items (length answers)

-- what a run answers where the machine ended so; the code of a program meets no wild word
abbrev pub answer_to : Option Stop → Option (Result ℕ RunFault)
answer_to None = Some (Err fault.Steps)
answer_to (Some (Machine.Exit status)) = Some (Ok status)
answer_to (Some (Machine.Panic x)) = Some (Err (fault.Panic x))
answer_to (Some Machine.ReadFault) = Some (Err fault.ReadFault)
answer_to (Some Machine.WriteFault) = Some (Err fault.WriteFault)
answer_to (Some Machine.NoMemory) = Some (Err fault.NoMemory)
answer_to (Some (Machine.StackLimit used asked limit)) = Some (Err (fault.StackLimit used asked limit))
answer_to (Some (Machine.HeapLimit used asked limit)) = Some (Err (fault.HeapLimit used asked limit))
answer_to (Some (Machine.WildReturn place)) = None
answer_to (Some (Machine.WildLink place)) = None
answer_to (Some (Machine.WildAddress address)) = None
answer_to (Some (Machine.WildHeader long)) = None

-- why words have no room in a heap: memory was refused, or it has no room for as many, and the limit is reported
abbrev pub IsHeapFault : (is_full : Type 0) → (used asked max : ℕ) → RunFault → Type 0
IsHeapFault is_full used asked max e = (e ≡ fault.NoMemory) ⊎ (is_full × (e ≡ fault.HeapLimit used asked max))

-- the words that a package variable begins with, where these are the types of the sites
abbrev pub begun_words : List TypeTree → PackageVariable → List ℕ
begun_words sites g = words_of (first_value (get_or sites g.site.0 ints) g.value)

-- words, of which the one at an address is now that of a constant, where there is one
abbrev pub with_first : List ℕ → (at : ℕ) → Option Const → List ℕ
with_first words at None = words
with_first words at (Some c) = with_word words at (word_of (value_of c))

-- package variables that begin with these words have room in a heap of at most max words, and this is the heap that a run of the code begins
-- with
abbrev pub AreBegun : (max : ℕ) → List (List ℕ) → (heap : List ℕ) → Type 0
AreBegun max globals heap = (follow : List ℕ → Outcome Event Halt) → begun max [] globals follow ≡ follow heap

-- one of them has none: so many words were taken before, and it asks for so many
abbrev pub FindsNoRoom : (max : ℕ) → List (List ℕ) → (used asked : ℕ) → Type 0
FindsNoRoom max globals used asked = (follow : List ℕ → Outcome Event Halt) → begun max [] globals follow ≡ Ends (record { ending = Machine.HeapLimit used asked max; heap = used })

-- why a run did not begin: memory was refused, or the first package variable without room is reported
abbrev pub IsBeginFault : (max : ℕ) → List (List ℕ) → RunFault → Type 0
IsBeginFault max globals e = (e ≡ fault.NoMemory) ⊎ ((used : ℕ) × (asked : ℕ) × (e ≡ fault.HeapLimit used asked max) × FindsNoRoom max globals used asked)
